-- The views of one stack under a list of calls.
use Rattle.std.proofs.Common.{◌≡◌, Bool, true, false, not, List, [], ◌∷◌, None, Some, cond, ap, sym, ◌∙◌, subst, refl}
use Rattle.std.specs.Option.{option_map}
use Rattle.arj_base.specs.declared.uid.Uid.{Uid}
use Rattle.arj_base.specs.Rows.{front, last_uid}
use Rattle.arj_base.specs.Uid.{uid_eq}
use Rattle.arj_base.proofs.Uids.{uid_is, uid_same}
use Rattle.arj_protocol.specs.Copy.{Over, Base, current, over_of}
use Rattle.arj_manager.specs.Views.{overlay, image, older}
use Rattle.arj_manager.specs.Runs.{Step, May, AllMay, stack_step, base_step, stack_run, base_run, overlay_step, overlay_run, image_step}
use Rattle.arj_manager.specs.Runs.{image_run, images}
use Rattle.arj_manager.specs.Runs.Step.{Write, Nested, Abort, Top}
use Rattle.arj_manager.proofs.Views.{no_image, now_written, over_written, image_written, now_folded, over_folded, image_folded}

-- without the deepest overlay
over_under : (e : Over) (es : List Over) → over_of (last_uid e.holder) es ≡ None → (b : Uid) →
    cond (uid_eq (last_uid e.holder) b) None (overlay (e ∷ es) b) ≡ overlay es b
over_under e es none b = by (uid_eq (last_uid e.holder) b) refl
  where
    by : (t : Bool) → uid_eq (last_uid e.holder) b ≡ t →
        cond t None (option_map (λ (e : Over). e.value) (cond t (Some e) (over_of b es))) ≡ overlay es b
    by true is = sym (ap (λ w. overlay es w) (sym (uid_is (last_uid e.holder) b is)) ∙ ap (option_map (λ (e : Over). e.value)) none)
    by false is = refl

image_under : (base : Base) (e : Over) (es : List Over) → over_of (last_uid e.holder) es ≡ None → (b : Uid) →
    cond (uid_eq (last_uid e.holder) b) None (image base (e ∷ es) b) ≡ image base es b
image_under base e es none b = by (uid_eq (last_uid e.holder) b) refl
  where
    by : (t : Bool) → uid_eq (last_uid e.holder) b ≡ t → cond t None (cond t (Some (current base es)) (image base es b)) ≡ image base es b
    by true is = sym (ap (λ w. image base es w) (sym (uid_is (last_uid e.holder) b is)) ∙ no_image base (last_uid e.holder) es none)
    by false is = refl

-- a top's overlay alone goes
top_gone : (e : Over) → stack_step (Top (last_uid e.holder)) (e ∷ []) ≡ []
top_gone e = λ i. cond (not (uid_same (last_uid e.holder) i)) (e ∷ []) []

one_overlay : (s : Step) (es : List Over) → May s es → overlay_step s (overlay es) ≡ overlay (stack_step s es)
one_overlay (Write holder tops v) es may = λ i b. sym (over_written holder tops v es b) i
one_overlay (Nested u h) [] may = absurd may
one_overlay (Nested u h) (e ∷ es) may =
    let core : overlay_step (Nested (last_uid e.holder) (last_uid (front e.holder))) (overlay (e ∷ es)) ≡ overlay (stack_step (Nested (last_uid e.holder) (last_uid (front e.holder))) (e ∷ es)) =
    λ i b. sym (over_folded e es may.0.only may.0.apart b) i in
    subst (λ w. overlay_step (Nested w h) (overlay (e ∷ es)) ≡ overlay (stack_step (Nested w h) (e ∷ es))) may.1
    (subst (λ w. overlay_step (Nested (last_uid e.holder) w) (overlay (e ∷ es)) ≡ overlay (stack_step (Nested (last_uid e.holder) w) (e ∷ es))) may.2 core)
one_overlay (Abort u) [] may = absurd may
one_overlay (Abort u) (e ∷ es) may =
    subst (λ w. overlay_step (Abort w) (overlay (e ∷ es)) ≡ overlay es) may.1 (λ i b. over_under e es may.0 b i)
one_overlay (Top u) [] may = absurd may
one_overlay (Top u) (e ∷ es) may =
    let core : overlay_step (Top (last_uid e.holder)) (overlay (e ∷ [])) ≡ overlay (stack_step (Top (last_uid e.holder)) (e ∷ [])) =
    (λ i b. over_under e [] refl b i) ∙ ap overlay (sym (top_gone e)) in
    subst (λ w. overlay_step (Top w) (overlay (e ∷ es)) ≡ overlay (stack_step (Top w) (e ∷ es))) may.1
    (subst (λ rest. overlay_step (Top (last_uid e.holder)) (overlay (e ∷ rest)) ≡ overlay (stack_step (Top (last_uid e.holder)) (e ∷ rest))) (sym may.0) core)

one_image : (s : Step) (base : Base) (es : List Over) → May s es →
    image_step s (images base es) ≡ images (base_step s base es) (stack_step s es)
one_image (Write holder tops v) base es may =
    λ i. record { now = sym (now_written base holder tops v es) i; before = λ b. sym (image_written base holder tops v es may b) i }
one_image (Nested u h) base [] may = absurd may
one_image (Nested u h) base (e ∷ es) may =
    let core : image_step (Nested (last_uid e.holder) (last_uid (front e.holder))) (images base (e ∷ es)) ≡ images base (stack_step (Nested (last_uid e.holder) (last_uid (front e.holder))) (e ∷ es)) =
    λ i. record {
      now = sym (now_folded e es may.0.only may.0.apart base) i;
      before =
          λ b. sym (image_folded e es may.0.only may.0.apart base may.0.parent b) i;
    } in
    subst (λ w. image_step (Nested w h) (images base (e ∷ es)) ≡ images base (stack_step (Nested w h) (e ∷ es))) may.1
    (subst (λ w. image_step (Nested (last_uid e.holder) w) (images base (e ∷ es)) ≡ images base (stack_step (Nested (last_uid e.holder) w) (e ∷ es))) may.2 core)
one_image (Abort u) base [] may = absurd may
one_image (Abort u) base (e ∷ es) may =
    let core : image_step (Abort (last_uid e.holder)) (images base (e ∷ es)) ≡ images base es =
    λ i. record {
      now = older (cond (uid_same (last_uid e.holder) i) (Some (current base es)) (image base es (last_uid e.holder))) e.value;
      before = λ b. image_under base e es may.0 b i;
    } in
    subst (λ w. image_step (Abort w) (images base (e ∷ es)) ≡ images base es) may.1 core
one_image (Top u) base [] may = absurd may
one_image (Top u) base (e ∷ es) may =
    let core : image_step (Top (last_uid e.holder)) (images base (e ∷ [])) ≡ images (base_step (Top (last_uid e.holder)) base (e ∷ [])) (stack_step (Top (last_uid e.holder)) (e ∷ [])) =
    (λ i. record {
      now = e.value;
      before =
          λ b. image_under base e [] refl b i;
    }) ∙ ap (images (base_step (Top (last_uid e.holder)) base (e ∷ []))) (sym (top_gone e)) in
    subst (λ w. image_step (Top w) (images base (e ∷ es)) ≡ images (base_step (Top w) base (e ∷ es)) (stack_step (Top w) (e ∷ es))) may.1
    (subst (λ rest. image_step (Top (last_uid e.holder)) (images base (e ∷ rest)) ≡ images (base_step (Top (last_uid e.holder)) base (e ∷ rest)) (stack_step (Top (last_uid e.holder)) (e ∷ rest))) (sym may.0) core)

pub overlays_run : (ss : List Step) (es : List Over) → AllMay ss es → overlay_run ss (overlay es) ≡ overlay (stack_run ss es)
overlays_run [] es may = refl
overlays_run (s ∷ ss) es may = ap (overlay_run ss) (one_overlay s es may.0) ∙ overlays_run ss (stack_step s es) may.1

pub images_run : (ss : List Step) (base : Base) (es : List Over) → AllMay ss es →
    image_run ss (images base es) ≡ images (base_run ss base es) (stack_run ss es)
images_run [] base es may = refl
images_run (s ∷ ss) base es may =
    ap (image_run ss) (one_image s base es may.0) ∙ images_run ss (base_step s base es) (stack_step s es) may.1
