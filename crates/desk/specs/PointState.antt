-- A point's state: its priority array, and the present value that this or the relinquish default gives.
use Rattle.std.specs.Prelude.{Option, Some, None}
use Rattle.points.specs.declared.point.Point.{Point}
use Rattle.points.specs.PriorityArray.{Places, present_of}
use Rattle.desk.specs.declared.point_state.PointState.{PointState}

abbrev pub state_with : Places → Point → PointState
state_with places point =
    let present = present_of places point.relinquish_default in
    record { places = places; present = present.0; priority = present.1 }

-- the state of a point that the building has, or none
abbrev pub state_of : Places → Option Point → Option PointState
state_of places None = None
state_of places (Some point) = Some (state_with places point)
