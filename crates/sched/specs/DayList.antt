-- The value of a weekly list or an exception's list at a time: the latest entry so far gives it.
use Rattle.std.specs.Prelude.{ℕ, Bool, nat_le, List, map, Option, ℤ, option_and_then}
use Rattle.sched.specs.declared.day_list.TimeValue.{TimeValue}
use Rattle.sched.specs.Chosen.{chosen}

-- an element gives way to one that stands after it and is not earlier
abbrev pub gives_way_later : TimeValue → TimeValue → Bool
gives_way_later x y = nat_le x.time y.time

-- of the elements at or before a time, the greatest by time and then by position
unfoldable pub latest : List TimeValue → ℕ → Option TimeValue
latest list time = chosen (λ x. nat_le x.time time) gives_way_later list

-- the value of a list at a time; none is NULL
abbrev pub list_value : List TimeValue → ℕ → Option ℤ
list_value list time = option_and_then (λ x. x.value) (latest list time)

abbrev pub times_of : List TimeValue → List ℕ
times_of list = map (λ x. x.time) list
