-- Nodes that are at rest, one after another.
use Rattle.std.proofs.Common.{◌≡◌, ◌≤◌, ◌<◌, ◌⊎◌, inl, inr, ℕ, ◌+◌, Bool, true, false, ◌&&◌, nat_le, refl, sym, ◌∙◌, subst, arith}
use Rattle.std.specs.Prelude.{MatchBool, is_some}
use Rattle.arj_image.specs.declared.image.Image.{Image}
use Rattle.arj_rest.specs.Nodes.{AreAtRest, NodesFit, are_few, is_halted, lines_fit}
use Rattle.arj_saved.specs.Files.{inc_at}
use Rattle.std.proofs.Math.Logic.{⊎_elim}
use Rattle.std.proofs.lemmas.Bool.Decides.{nat_tests}

pub none_rests : (image : Image) → AreAtRest image 0
none_rests image n some few = absurd (omega (arith, some, few))

-- one more
pub one_rests : (image : Image) (done : ℕ) → AreAtRest image done → (is_halted image.journal (done + 1) && is_some (inc_at image.files (done + 1))) ≡ true →
    AreAtRest image (done + 1)
one_rests image done h e n some few = ⊎_elim (λ (l : n ≤ done). h n some l)
    (λ (s : n ≡ done + 1). subst (λ m. (is_halted image.journal m && is_some (inc_at image.files m)) ≡ true) (sym s) e) (split n done few)
  where
    split : (m k : ℕ) → m ≤ k + 1 → (m ≤ k) ⊎ (m ≡ k + 1)
    split m k le = by (nat_le m k) refl
      where
        by : (b : Bool) → nat_le m k ≡ b → (m ≤ k) ⊎ (m ≡ k + 1)
        by true e = inl (grind (arith, nat_tests, e))
        by false e = inr (let more : k < m = grind (arith, nat_tests, e) in omega (arith, le, more))

pub one_waits : (image : Image) (done nodes : ℕ) → done < nodes → (is_halted image.journal (done + 1) && is_some (inc_at image.files (done + 1))) ≡ false →
    AreAtRest image nodes → ⊥
one_waits image done nodes lt e h =
    let never : true ≡ false = sym (h (done + 1) (omega arith) (omega (arith, lt))) ∙ e in cc never

pub fit_test : (b : Bool) (image : Image) → are_few image ≡ true → lines_fit image ≡ true →
    MatchBool b (AreAtRest image (let h = image.header in h.nodes)) (AreAtRest image (let h = image.header in h.nodes) → ⊥) →
    MatchBool b (NodesFit image) (NodesFit image → ⊥)
fit_test true image few fit rest = record { few = few; fits = fit; rest = rest }
fit_test false image few fit waits = λ f. waits f.rest
