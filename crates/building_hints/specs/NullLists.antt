-- Lists of time values that give no value.
use Rattle.std.specs.Prelude.{◌≡◌, ◌↔◌, ℕ, Bool, true, List, None, is_none}
use Rattle.std.specs.List.{list_all}
use Rattle.sched.specs.DayList.{list_value}
use Rattle.sched.specs.declared.day_list.TimeValue.{TimeValue}

-- the list is NULL at each time that it names
unfoldable pub is_null_all_day : List TimeValue → Bool
is_null_all_day list = list_all (λ it. is_none (list_value list it.time)) list

-- the law of it: the list is NULL at each time
abbrev pub NullAtEachTime : Type 0
NullAtEachTime = (list : List TimeValue) → (is_null_all_day list ≡ true) ↔ ((time : ℕ) → list_value list time ≡ None)
