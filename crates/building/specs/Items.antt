-- What is read of the items of a list.
use Rattle.std.specs.Prelude.{ℕ, ◌+◌, ◌==◌, Bool, true, ◌&&◌, nat_le, List, [], ◌∷◌, Result, Ok, is_some, ⊤}
use Rattle.toml.specs.Data.{Data, Items, no_items, item, as_table, get_item}
use Rattle.building.specs.declared.cause.Cause.TheVariants.{BeyondLimit, WrongType}
use Rattle.building.specs.declared.file_fault.FileFault.{FileFault}
use Rattle.building.specs.declared.key.Key.{Key}
use Rattle.building.specs.declared.location.Location.{Location}
use Rattle.building.specs.FaultAt.{fault_at}
use Rattle.points.specs.FaultSteps.{or_fault, where_holds, ◌>>=◌}
use Rattle.building.specs.Fields.{list_in}

-- what is read of each item, or the first fault
abbrev pub each_item : {A : Type 0} → (Data → Result A FileFault) → Items → Result (List A) FileFault
each_item read no_items = Ok []
each_item read (item d ds) = read d >>= (λ x. each_item read ds >>= (λ xs. Ok (x ∷ xs)))

abbrev pub count_of : Items → ℕ
count_of no_items = 0
count_of (item d ds) = 1 + count_of ds

abbrev pub are_tables : Items → Bool
are_tables no_items = true
are_tables (item d ds) = is_some (as_table d) && are_tables ds

-- B13 where the list is longer than its limit
abbrev pub at_most : ℕ → Location → Key → Items → Result ⊤ FileFault
at_most most location key items = where_holds (nat_le (count_of items) most) (fault_at location key BeyondLimit) tt

-- B4 where an item is no table
abbrev pub all_tables : Location → Key → Items → Result ⊤ FileFault
all_tables location key items = where_holds (are_tables items) (fault_at location key WrongType) tt

-- B4 where the list has another number of items
abbrev pub exactly : ℕ → Location → Key → Items → Result ⊤ FileFault
exactly number location key items = where_holds (count_of items == number) (fault_at location key WrongType) tt

-- the item at an index from 0, as a list: B4 where it is none
abbrev pub list_item_at : ℕ → Location → Key → Items → Result Items FileFault
list_item_at index location key items =
    or_fault (fault_at location key WrongType) (get_item index items) >>= list_in location key
