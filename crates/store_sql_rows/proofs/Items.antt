-- A list whose items are compared one by one is that list exactly if the last is the last.
use Rattle.std.proofs.Common.{◌≡◌, ◌<◌, ◌≤◌, List, [], ◌∷◌, length, get_or, ap, sym, ◌∙◌, arith}

abbrev last_of : {X : Type 0} (x : X) (xs : List X) → X
last_of x [] = x
last_of x (y ∷ ys) = last_of y ys

pub three : {X : Type 0} (xs : List X) (a0 a1 a2 w0 w1 w2 : X) (R : Type 0) → 3 ≤ length xs → length xs < 4
    → a0 ≡ get_or xs 0 a0 → a1 ≡ get_or xs 1 a1 → a2 ≡ get_or xs 2 a2
    → a0 ≡ w0 → a1 ≡ w1 → (R → a2 ≡ w2) × (a2 ≡ w2 → R) → (R → xs ≡ w0 ∷ w1 ∷ w2 ∷ []) × (xs ≡ w0 ∷ w1 ∷ w2 ∷ [] → R)
three [] a0 a1 a2 w0 w1 w2 R low high p0 p1 p2 q0 q1 h = absurd (omega arith)
three (x0 ∷ []) a0 a1 a2 w0 w1 w2 R low high p0 p1 p2 q0 q1 h = absurd (omega arith)
three (x0 ∷ x1 ∷ []) a0 a1 a2 w0 w1 w2 R low high p0 p1 p2 q0 q1 h = absurd (omega arith)
three (x0 ∷ x1 ∷ x2 ∷ []) a0 a1 a2 w0 w1 w2 R low high p0 p1 p2 q0 q1 h =
    (λ r. λ i. (sym p0 ∙ q0) i ∷ (sym p1 ∙ q1) i ∷ (sym p2 ∙ h.0 r) i ∷ [], λ e. h.1 (p2 ∙ ap (last_of x0) e))
three (x0 ∷ x1 ∷ x2 ∷ x3 ∷ more) a0 a1 a2 w0 w1 w2 R low high p0 p1 p2 q0 q1 h = absurd (omega arith)

pub five : {X : Type 0} (xs : List X) (a0 a1 a2 a3 a4 w0 w1 w2 w3 w4 : X) (R : Type 0) → 5 ≤ length xs → length xs < 6
    → a0 ≡ get_or xs 0 a0 → a1 ≡ get_or xs 1 a1 → a2 ≡ get_or xs 2 a2 → a3 ≡ get_or xs 3 a3 → a4 ≡ get_or xs 4 a4
    → a0 ≡ w0 → a1 ≡ w1 → a2 ≡ w2 → a3 ≡ w3 → (R → a4 ≡ w4) × (a4 ≡ w4 → R)
    → (R → xs ≡ w0 ∷ w1 ∷ w2 ∷ w3 ∷ w4 ∷ []) × (xs ≡ w0 ∷ w1 ∷ w2 ∷ w3 ∷ w4 ∷ [] → R)
five [] a0 a1 a2 a3 a4 w0 w1 w2 w3 w4 R low high p0 p1 p2 p3 p4 q0 q1 q2 q3 h = absurd (omega arith)
five (x0 ∷ []) a0 a1 a2 a3 a4 w0 w1 w2 w3 w4 R low high p0 p1 p2 p3 p4 q0 q1 q2 q3 h = absurd (omega arith)
five (x0 ∷ x1 ∷ []) a0 a1 a2 a3 a4 w0 w1 w2 w3 w4 R low high p0 p1 p2 p3 p4 q0 q1 q2 q3 h = absurd (omega arith)
five (x0 ∷ x1 ∷ x2 ∷ []) a0 a1 a2 a3 a4 w0 w1 w2 w3 w4 R low high p0 p1 p2 p3 p4 q0 q1 q2 q3 h = absurd (omega arith)
five (x0 ∷ x1 ∷ x2 ∷ x3 ∷ []) a0 a1 a2 a3 a4 w0 w1 w2 w3 w4 R low high p0 p1 p2 p3 p4 q0 q1 q2 q3 h = absurd (omega arith)
five (x0 ∷ x1 ∷ x2 ∷ x3 ∷ x4 ∷ []) a0 a1 a2 a3 a4 w0 w1 w2 w3 w4 R low high p0 p1 p2 p3 p4 q0 q1 q2 q3 h = (
  λ r. λ i. (sym p0 ∙ q0) i ∷ (sym p1 ∙ q1) i ∷ (sym p2 ∙ q2) i ∷ (sym p3 ∙ q3) i ∷ (sym p4 ∙ h.0 r) i ∷ [],
  λ e. h.1 (p4 ∙ ap (last_of x0) e),
)
five (x0 ∷ x1 ∷ x2 ∷ x3 ∷ x4 ∷ x5 ∷ more) a0 a1 a2 a3 a4 w0 w1 w2 w3 w4 R low high p0 p1 p2 p3 p4 q0 q1 q2 q3 h = absurd (omega arith)

pub eight : {X : Type 0} (xs : List X) (a0 a1 a2 a3 a4 a5 a6 a7 w0 w1 w2 w3 w4 w5 w6 w7 : X) (R : Type 0) → 8 ≤ length xs → length xs < 9
    → a0 ≡ get_or xs 0 a0 → a1 ≡ get_or xs 1 a1 → a2 ≡ get_or xs 2 a2 → a3 ≡ get_or xs 3 a3 → a4 ≡ get_or xs 4 a4
    → a5 ≡ get_or xs 5 a5 → a6 ≡ get_or xs 6 a6 → a7 ≡ get_or xs 7 a7
    → a0 ≡ w0 → a1 ≡ w1 → a2 ≡ w2 → a3 ≡ w3 → a4 ≡ w4 → a5 ≡ w5 → a6 ≡ w6 → (R → a7 ≡ w7) × (a7 ≡ w7 → R)
    → (R → xs ≡ w0 ∷ w1 ∷ w2 ∷ w3 ∷ w4 ∷ w5 ∷ w6 ∷ w7 ∷ []) × (xs ≡ w0 ∷ w1 ∷ w2 ∷ w3 ∷ w4 ∷ w5 ∷ w6 ∷ w7 ∷ [] → R)
eight [] a0 a1 a2 a3 a4 a5 a6 a7 w0 w1 w2 w3 w4 w5 w6 w7 R low high p0 p1 p2 p3 p4 p5 p6 p7 q0 q1 q2 q3 q4 q5 q6 h = absurd (omega arith)
eight (x0 ∷ []) a0 a1 a2 a3 a4 a5 a6 a7 w0 w1 w2 w3 w4 w5 w6 w7 R low high p0 p1 p2 p3 p4 p5 p6 p7 q0 q1 q2 q3 q4 q5 q6 h =
    absurd (omega arith)
eight (x0 ∷ x1 ∷ []) a0 a1 a2 a3 a4 a5 a6 a7 w0 w1 w2 w3 w4 w5 w6 w7 R low high p0 p1 p2 p3 p4 p5 p6 p7 q0 q1 q2 q3 q4 q5 q6 h =
    absurd (omega arith)
eight (x0 ∷ x1 ∷ x2 ∷ []) a0 a1 a2 a3 a4 a5 a6 a7 w0 w1 w2 w3 w4 w5 w6 w7 R low high p0 p1 p2 p3 p4 p5 p6 p7 q0 q1 q2 q3 q4 q5 q6
    h = absurd (omega arith)
eight (x0 ∷ x1 ∷ x2 ∷ x3 ∷ []) a0 a1 a2 a3 a4 a5 a6 a7 w0 w1 w2 w3 w4 w5 w6 w7 R low high p0 p1 p2 p3 p4 p5 p6 p7 q0 q1 q2 q3 q4 q5
    q6 h = absurd (omega arith)
eight (x0 ∷ x1 ∷ x2 ∷ x3 ∷ x4 ∷ []) a0 a1 a2 a3 a4 a5 a6 a7 w0 w1 w2 w3 w4 w5 w6 w7 R low high p0 p1 p2 p3 p4 p5 p6 p7 q0 q1 q2 q3
    q4 q5 q6 h = absurd (omega arith)
eight (x0 ∷ x1 ∷ x2 ∷ x3 ∷ x4 ∷ x5 ∷ []) a0 a1 a2 a3 a4 a5 a6 a7 w0 w1 w2 w3 w4 w5 w6 w7 R low high p0 p1 p2 p3 p4 p5 p6 p7 q0 q1 q2
    q3 q4 q5 q6 h = absurd (omega arith)
eight (x0 ∷ x1 ∷ x2 ∷ x3 ∷ x4 ∷ x5 ∷ x6 ∷ []) a0 a1 a2 a3 a4 a5 a6 a7 w0 w1 w2 w3 w4 w5 w6 w7 R low high p0 p1 p2 p3 p4 p5 p6 p7 q0
    q1 q2 q3 q4 q5 q6 h = absurd (omega arith)
eight (x0 ∷ x1 ∷ x2 ∷ x3 ∷ x4 ∷ x5 ∷ x6 ∷ x7 ∷ []) a0 a1 a2 a3 a4 a5 a6 a7 w0 w1 w2 w3 w4 w5 w6 w7 R low high p0 p1 p2 p3 p4 p5 p6
    p7 q0 q1 q2 q3 q4 q5 q6 h = (
      λ r. λ i. (sym p0 ∙ q0) i ∷ (sym p1 ∙ q1) i ∷ (sym p2 ∙ q2) i ∷ (sym p3 ∙ q3) i ∷ (sym p4 ∙ q4) i ∷ (sym p5 ∙ q5) i
          ∷ (sym p6 ∙ q6) i ∷ (sym p7 ∙ h.0 r) i ∷ [],
      λ e. h.1 (p7 ∙ ap (last_of x0) e),
    )
eight (x0 ∷ x1 ∷ x2 ∷ x3 ∷ x4 ∷ x5 ∷ x6 ∷ x7 ∷ x8 ∷ more) a0 a1 a2 a3 a4 a5 a6 a7 w0 w1 w2 w3 w4 w5 w6 w7 R low high p0 p1 p2 p3 p4
    p5 p6 p7 q0 q1 q2 q3 q4 q5 q6 h = absurd (omega arith)
