use Rattle.std.proofs.Common.{◌≡◌, ◌∙◌, sym, ap, Some, of_z, option_map, pos, to_z, unwrap_or, w64, rules}
use Rattle.json.specs.Reads.{token_of}
use Rattle.delivery_json.specs.Readings.{integer_in, name_in, value_in}
use Rattle.delivery_json.proofs.ReadingLemmas.{parsed_by-scalar, number-taken, panel-taken, point-taken, priority-taken, value-taken}
use Rattle.delivery_json.proofs.command_members.CommandMembers.take.Goals as goal

pub returns-in_ok-integer_of-in-number : goal.returns-in_ok-integer_of-in-number
returns-in_ok-integer_of-in-number c =
    let z = c.in_ok-integer_of-in-number.field-0 in
    let whole : to_z w64 (of_z w64 z) ≡ z = search rules in
    let reported = parsed_by-scalar (token_of c.args.token.now) integer_in z c.in_ok-integer_of-in-number.ensures in (
      reported.0,
      reported.1,
      λ ms so_far. rw (c.in-number.is, whole) (number-taken c.args.self.now reported.0 ms so_far _ reported.2),
    )

pub returns-in_ok-name_of_token-in-panel : goal.returns-in_ok-name_of_token-in-panel
returns-in_ok-name_of_token-in-panel c =
    let reported = parsed_by-scalar (token_of c.args.token.now) name_in _ c.in_ok-name_of_token-in-panel.ensures in (
      reported.0,
      reported.1,
      λ ms so_far. rw c.in-panel.is (panel-taken c.args.self.now reported.0 ms so_far _ reported.2),
    )

pub returns-in_ok-name_of_token-in-point : goal.returns-in_ok-name_of_token-in-point
returns-in_ok-name_of_token-in-point c =
    let reported = parsed_by-scalar (token_of c.args.token.now) name_in _ c.in_ok-name_of_token-in-point.ensures in (
      reported.0,
      reported.1,
      λ ms so_far. rw c.in-point.is (point-taken c.args.self.now reported.0 ms so_far _ reported.2),
    )

pub returns-in_ok-value_of-in-priority : goal.returns-in_ok-value_of-in-priority
returns-in_ok-value_of-in-priority c =
    let z = c.unwrap_or.result in
    let whole : to_z w64 (of_z w64 z) ≡ z = search rules in
    let default : z ≡ unwrap_or c.in_ok-value_of-in-priority.field-0 (pos 16) = search rules in
    let reported = parsed_by-scalar (token_of c.args.token.now) value_in _ c.in_ok-value_of-in-priority.ensures in (
      reported.0,
      reported.1,
      λ ms so_far. rw (c.in-priority.is, whole) (priority-taken c.args.self.now reported.0 ms so_far z
          (ap (option_map (λ v. unwrap_or v (pos 16))) reported.2 ∙ ap Some (sym default))),
    )

pub returns-in_ok-value_of-in-value : goal.returns-in_ok-value_of-in-value
returns-in_ok-value_of-in-value c =
    let reported = parsed_by-scalar (token_of c.args.token.now) value_in _ c.in_ok-value_of-in-value.ensures in (
      reported.0,
      reported.1,
      λ ms so_far. rw c.in-value.is (value-taken c.args.self.now reported.0 ms so_far _ reported.2),
    )
