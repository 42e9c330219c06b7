use Rattle.std.proofs.Common.{◌≡◌, ◌-◌, ◌∙◌, ◌∷◌, length, Some, None, ap, refl, arith}
use Rattle.json.specs.Json.{read_key}
use Rattle.json.specs.Reads.{token_of}
use Rattle.json.proofs.Grammar.{read_key-shorter}
use Rattle.serde_json.specs.Data.{no_members, put}
use Rattle.delivery_json.proofs.GrammarLemmas.{member_taken, members_over}
use Rattle.delivery_json.proofs.object_members.members_to_end.Goals as goal

pub members-init : goal.members-init
members-init c = (length c.args.reader.now, no_members, omega arith, omega arith, refl, c.none-parsed.ensures)

pub members-preserved : goal.members-preserved
members-preserved c =
    let so_far = c.members.invariant in
    let k = c.in-Some.key.now in
    let s = c.next_key.new.self in
    let r = c.next.new.self in
    let t = token_of c.in_ok-token.token in
    let named : read_key c.members.reader ≡ Some (Some k, s) = grind arith in
    let one : s ≡ t ∷ r = grind arith in
    let taken = c.in_ok-take.ensures in
    let shorter = read_key-shorter c.members.reader (Some k) s named in
    let rest : length s ≡ length (t ∷ r) = ap length one in (
      so_far.0 - 1,
      put k taken.0 so_far.1,
      omega (arith, shorter, rest, so_far.2),
      omega (arith, shorter, rest, so_far.3),
      so_far.4 ∙ member_taken 126 so_far.0 k c.members.reader s r t taken.0 so_far.1 (omega (arith, shorter, so_far.2)) named one taken.1,
      taken.2 so_far.1 so_far.5,
    )

pub returns : goal.returns
returns c =
    let so_far = c.members.invariant in
    let ended : read_key c.members.reader ≡ Some (None, c.next_key.new.self) = grind arith in
    (so_far.1, so_far.4 ∙ members_over 126 so_far.0 c.members.reader c.next_key.new.self so_far.1 so_far.2 ended, so_far.5)
