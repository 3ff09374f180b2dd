-- Two answers that keep a contract are equal, where the contract is an equation. Assumes nothing.
use Prim.Native.Nat.{ℕ}
use mathlib.Core.Path.{◌≡◌, ap, sym, ◌∙◌}
use Rattle.algorithm.specs.declared.Term.{Term}
use Rattle.algorithm.specs.declared.Version.{Version}
use Rattle.algorithm.specs.declared.Position.{Position}

pub same_answer : {A : Type 0} {x y d : A} → x ≡ d → y ≡ d → x ≡ y
same_answer e f = e ∙ sym f

-- ---- an answer that is a counter, by its number

pub same-term : {x y : Term} {n : ℕ} → x.0 ≡ n → y.0 ≡ n → x ≡ y
same-term e f = ap (λ (n : ℕ). record { 0 = n }) (same_answer e f)

pub same_version : {x y : Version} {n : ℕ} → x.0 ≡ n → y.0 ≡ n → x ≡ y
same_version e f = ap (λ (n : ℕ). record { 0 = n }) (same_answer e f)

pub same-position : {x y : Position} {n : ℕ} → x.0 ≡ n → y.0 ≡ n → x ≡ y
same-position e f = ap (λ (n : ℕ). record { 0 = n }) (same_answer e f)
