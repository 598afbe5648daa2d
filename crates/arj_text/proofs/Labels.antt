-- Labels as keys: two are one key exactly where their bytes are the same.
use Rattle.std.specs.Prelude.{◌≡◌, Option, if◌then◌else◌}
use Rattle.std.proofs.Common.{◌∙◌, ap}
use Rattle.std.specs.Ordering.{is_eq}
use Rattle.std.specs.Str.{bytes_eq}
use Rattle.std.specs.BTreeMap.{BTreeMap, Updates, get}
use Rattle.std.proofs.lemmas.Map.Text.{is_eq-slice_cmp}
use Rattle.arj_text.specs.declared.label.Label.{Label}
use Rattle.arj_text.specs.Label.{name, label_cmp}

pub same_key : (a b : Label) → is_eq (label_cmp a b) ≡ bytes_eq (name a) (name b)
same_key a b = is_eq-slice_cmp (name a) (name b)

-- After an insert at k or a removal of k, each label with the bytes of k has the new value, and any other the old.
pub get_updates : {X : Type 0} (old new : BTreeMap Label X) (k : Label) (value : Option X) → Updates label_cmp old new k value
    → (q : Label) → get label_cmp new q ≡ (if bytes_eq (name k) (name q) then value else get label_cmp old q)
get_updates old new k value updates q = updates.0 q ∙ ap (λ same. if same then value else get label_cmp old q) (same_key k q)
