-- Lists of time values of a building file.
use Rattle.std.specs.Prelude.{Bool, List, Result}
use Rattle.std.specs.List.{list_all}
use Rattle.toml.specs.Data.{Data, Items}
use Rattle.building.specs.declared.cause.Cause.TheVariants.{NotATimeValue, OutsideKind}
use Rattle.building.specs.declared.file_fault.FileFault.{FileFault}
use Rattle.building.specs.declared.key.Key.{Key}
use Rattle.building.specs.declared.location.Location.{Location}
use Rattle.building.specs.FaultAt.{fault_at}
use Rattle.points.specs.FaultSteps.{or_fault, where_holds, ◌>>=◌}
use Rattle.points.specs.declared.Kind.{Kind}
use Rattle.sched.specs.declared.day_list.TimeValue.{TimeValue}
use Rattle.building.specs.Kinds.{lies_in_all}
use Rattle.building.specs.TimeValue.{time_value_at}
use Rattle.building.specs.Fields.{text_in}
use Rattle.building.specs.Items.{at_most, each_item}

abbrev pub has_values_in : List Kind → TimeValue → Bool
has_values_in kinds x = lies_in_all kinds x.value

abbrev pub is_list_within : List Kind → List TimeValue → Bool
is_list_within kinds xs = list_all (has_values_in kinds) xs

-- B4, B9 where the text is none, B11 where the value lies outside a kind
abbrev pub time_value_in : Location → Key → List Kind → Data → Result TimeValue FileFault
time_value_in location key kinds d = do
  text ← text_in location key d
  x ← or_fault (fault_at location key NotATimeValue) (time_value_at text)
  where_holds (has_values_in kinds x) (fault_at location key OutsideKind) x

-- at most 100 time values
abbrev pub list_of : Location → Key → List Kind → Items → Result (List TimeValue) FileFault
list_of location key kinds items = at_most 100 location key items
    >>= (λ _. each_item (time_value_in location key kinds) items)
