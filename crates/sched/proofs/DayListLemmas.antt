-- The order of a list's times.
use Rattle.std.proofs.Common.{◌≡◌, ℕ, true, false, nat_le, arith}
use Rattle.std.proofs.lemmas.Bool.Decides.{nat_tests}
use Rattle.sched.specs.DayList.{gives_way_later}
use Rattle.sched.proofs.ChosenLemmas.{Settles}

onward : (q b z : ℕ) → nat_le q b ≡ true → nat_le b z ≡ true → nat_le q z ≡ true
onward q b z h k = grind (arith, nat_tests)

past : (b q z : ℕ) → nat_le b q ≡ false → nat_le b z ≡ true → nat_le q z ≡ true
past b q z h k = grind (arith, nat_tests)

pub settles_later : Settles gives_way_later
settles_later = record { onward = λ q b z. onward q.time b.time z.time; past = λ b q z. past b.time q.time z.time }
