-- Laws of a choice by a test, and of a function changed at one place. Assumes nothing.
use Prim.Native.Nat.{ℕ}
use mathlib.Core.Bool.{Bool, true, false, cond, not}
use mathlib.Core.Path.{◌≡◌, refl, sym, subst}
use lib.Dec.{T, T_not, eqb, eqb→eq, eqb_refl}
use Rattle.words.specs.Lists.{put}

module _ {A : Type 0} where
  pub cond-elim : (R : A → Type 0) (b : Bool) {x y : A} → (T b → R x) → (T (not b) → R y) → R (cond b x y)
  cond-elim R true f g = f tt
  cond-elim R false f g = g tt

  pub put_same : (f : ℕ → A) (k : ℕ) (a : A) → put f k a k ≡ a
  unfolding put
  put_same f k a = cond-elim (λ b. b ≡ a) (eqb k k) (λ _. refl) (λ o. absurd (T_not (eqb k k) o (eqb_refl k)))

  pub put-elim : (R : ℕ → A → Type 0) {f : ℕ → A} {k : ℕ} {a : A} → R k a → ((n : ℕ) → R n (f n)) → (n : ℕ) → R n (put f k a n)
  unfolding put
  put-elim R {f} {k} {a} h g n = cond-elim (R n) (eqb n k) (λ e. subst (λ (m : ℕ). R m a) (sym (eqb→eq n k e)) h) (λ _. g n)
