-- No call differs exactly where all answers are right.
use Rattle.std.proofs.Common.{◌≡◌, ℕ, List, [], ◌∷◌, Bool, true, false, cond, Option, Some, None, refl}
use Rattle.std.specs.Prelude.{◌↔◌}
use Rattle.std.specs.Str.{bytes_eq}
use Rattle.std.proofs.lemmas.Slice.Eq.{bytes_eq-Decides}
use Rattle.arj_class.specs.Table.{answer_of}
use Rattle.arj_text.specs.Words.{answer_text}
use Rattle.arj_model.specs.Calls.{Call}
use Rattle.arj_model.specs.Serial.{Answers, Values, after}
use Rattle.arj_replay.specs.Verdict.{Differs, differs_or, first_difference}

right_now : (given answer : List ℕ) (at : ℕ) (behind : Option Differs) →
    differs_or at (cond (bytes_eq given answer) None (Some given)) behind ≡ None → (given ≡ answer) × (behind ≡ None)
right_now given answer at behind e = by (bytes_eq given answer) refl e
  where
    by : (b : Bool) → bytes_eq given answer ≡ b → differs_or at (cond b None (Some given)) behind ≡ None →
        (given ≡ answer) × (behind ≡ None)
    by true is g = ((bytes_eq-Decides given answer).0 is, g)
    by false is g = absurd (cc g)

pub difference_right : (values : Values) (calls : List Call) → (first_difference values calls ≡ None) ↔ Answers values calls
difference_right values [] = (λ e. tt, λ a. refl)
difference_right values (c ∷ calls) = by (difference_right (after values c) calls)
  where
    given : List ℕ
    given = answer_text (answer_of c.op (values c.x))

    by : (first_difference (after values c) calls ≡ None) ↔ Answers (after values c) calls →
        (first_difference values (c ∷ calls) ≡ None) ↔ Answers values (c ∷ calls)
    by ih = (
      λ e. let r = right_now given c.answer c.at (first_difference (after values c) calls) e in (r.0, ih.0 r.1),
      λ a. (λ i. differs_or c.at (cond ((bytes_eq-Decides given c.answer).1 a.0 i) None (Some given)) (ih.1 a.1 i)),
    )
