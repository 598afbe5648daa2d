-- Lists of records under a list of calls.
use Rattle.std.proofs.Common.{◌≡◌, Bool, true, false, ◌||◌, List, [], ◌∷◌, Option, None, Some, is_some, cond, ap, sym, ◌∙◌, subst, refl}
use Rattle.std.specs.Option.{option_or, option_to_list}
use Rattle.std.proofs.lemmas.Bool.{or_right}
use Rattle.arj_base.specs.declared.uid.Uid.{Uid}
use Rattle.arj_base.specs.Rows.{last_uid}
use Rattle.arj_base.specs.Uid.{uid_eq}
use Rattle.arj_base.proofs.Uids.{uid_same}
use Rattle.arj_class.specs.declared.value.Value.{Value}
use Rattle.arj_protocol.specs.Copy.{Base, Over}
use Rattle.arj_record.specs.declared.record.Record.{Record}
use Rattle.arj_record.specs.declared.record.Record.TheVariants.{Persistence, Recovery}
use Rattle.arj_record.specs.Records.{added, is_changed, keep_calls, merged, restored, undo_calls, IsArranged}
use Rattle.arj_record.specs.Records as records
use Rattle.arj_record.proofs.Added.{arranged_added, arranged_gathered}
use Rattle.arj_record.proofs.Merged.{gathered_is}
use Rattle.arj_record.proofs.Undone.{added_merged, changed-merged, image-merged, raised_once, restored_once}
use Rattle.arj_manager.specs.Views.{older}
use Rattle.arj_manager.specs.Runs.{Step, AllMay, Images, base_run, image_run, image_step, images, stack_run}
use Rattle.arj_manager.specs.Runs.Step.{Write, Nested, Abort, Top}
use Rattle.arj_manager.specs.Lists.{Lists, AreLists, images_in, latest, list_run, list_step}
use Rattle.arj_manager.proofs.Runs.{images_run}
use Rattle.arj_manager.proofs.Views.{older_is}

or_some : (o p : Option Value) → is_some (option_or o p) ≡ (is_some o || is_some p)
or_some None p = refl
or_some (Some v) p = refl

-- ---- one record more

image_more : (x : Uid) (r : Record Value) (rs : List (Record Value)) → IsArranged rs →
    records.image x (added r rs) ≡ option_or (records.image x rs) (records.image x (r ∷ []))
image_more x r rs p = ap (records.image x) (added_merged rs r p) ∙ image-merged rs (r ∷ []) x p (tt, tt)

changed_more : (x : Uid) (r : Record Value) (rs : List (Record Value)) → IsArranged rs →
    is_changed x (added r rs) ≡ (is_changed x rs || is_changed x (r ∷ []))
changed_more x r rs p = ap (is_changed x) (added_merged rs r p) ∙ changed-merged rs (r ∷ []) x p (tt, tt)

or_none : (o : Option Value) → option_or o None ≡ o
or_none None = refl
or_none (Some v) = refl

-- the records of a write
module _ (x : Uid) (v : Value) (rs : List (Record Value)) (p : IsArranged rs) where
  -- the list after a write over this value
  abbrev written : List (Record Value)
  written = added (Persistence x) (added (Recovery x v) rs)

  arranged_written : IsArranged written
  arranged_written = arranged_added (Persistence x) (added (Recovery x v) rs) (arranged_added (Recovery x v) rs p)

  alone : records.image x (Recovery x v ∷ []) ≡ Some v
  alone = rw (uid_same x) refl

  image_written : records.image x written ≡ Some (older (records.image x rs) v)
  image_written =
      image_more x (Persistence x) (added (Recovery x v) rs) (arranged_added (Recovery x v) rs p)
      ∙ (or_none (records.image x (added (Recovery x v) rs))
      ∙ (image_more x (Recovery x v) rs p
      ∙ (ap (option_or (records.image x rs)) alone
      ∙ sym (older_is (records.image x rs) v))))

  changed_written : is_changed x written ≡ true
  changed_written =
      changed_more x (Persistence x) (added (Recovery x v) rs) (arranged_added (Recovery x v) rs p) ∙ or_right (is_changed x (added (Recovery x v) rs)) (is_changed x (Persistence x ∷ [])) marked
    where
      marked : is_changed {V = Value} x (Persistence x ∷ []) ≡ true
      marked = rw (uid_same x) refl

arranged_merged : (parent child : List (Record Value)) → IsArranged parent → IsArranged child → IsArranged (merged parent child)
arranged_merged parent child p q = subst IsArranged (gathered_is child parent q p) (arranged_gathered child parent p)

-- ---- one call

latest_is : (o : Option Value) (now : Value) → latest (option_to_list o) now ≡ older o now
latest_is None now = refl
latest_is (Some v) now = refl

one_list : (x : Uid) (s : Step) (l : Lists) → AreLists x l → images_in x (list_step x s l) ≡ image_step s (images_in x l)
one_list x (Write holder tops v) l are = λ i. record { now = v; before = λ b. by b (uid_eq (last_uid holder) b) i }
  where
    by : (b : Uid) (t : Bool) →
        records.image x (cond t (written x l.now (l.kept (last_uid holder)) (are.arranged (last_uid holder))) (l.kept b)) ≡ cond t (Some (older (records.image x (l.kept (last_uid holder))) l.now)) (records.image x (l.kept b))
    by b true = image_written x l.now (l.kept (last_uid holder)) (are.arranged (last_uid holder))
    by b false = refl
one_list x (Nested u h) l are = λ i. record { now = l.now; before = λ b. by b (uid_eq h b) (uid_eq u b) i }
  where
    by : (b : Uid) (s t : Bool) →
        records.image x (cond s (merged (l.kept h) (l.kept u)) (cond t [] (l.kept b))) ≡ cond s (option_or (records.image x (l.kept h)) (records.image x (l.kept u))) (cond t None (records.image x (l.kept b)))
    by b true t = image-merged (l.kept h) (l.kept u) x (are.arranged h) (are.arranged u)
    by b false true = refl
    by b false false = refl
one_list x (Abort u) l are =
    λ i. record {
      now =
          (ap (λ vs. latest vs l.now) (restored_once u x (l.kept u) (are.arranged u)) ∙ latest_is (records.image x (l.kept u)) l.now) i;
      before =
          λ b. by b (uid_eq u b) i;
    }
  where
    by : (b : Uid) (t : Bool) → records.image x (cond t [] (l.kept b)) ≡ cond t None (records.image x (l.kept b))
    by b true = refl
    by b false = refl
one_list x (Top u) l are = λ i. record { now = l.now; before = λ b. by b (uid_eq u b) i }
  where
    by : (b : Uid) (t : Bool) → records.image x (cond t [] (l.kept b)) ≡ cond t None (records.image x (l.kept b))
    by b true = refl
    by b false = refl

-- what holds of each list holds of each that a call leaves
gone : (P : List (Record Value) → Type 0) (u : Uid) (l : Lists) → P [] → ((b : Uid) → P (l.kept b)) → (b : Uid) →
    P (cond (uid_eq u b) [] (l.kept b))
gone P u l none all b = by (uid_eq u b)
  where
    by : (t : Bool) → P (cond t [] (l.kept b))
    by true = none
    by false = all b

-- the list is in its order, and has the object as changed exactly where it has its image
abbrev IsList : Uid → List (Record Value) → Type 0
IsList x rs = IsArranged rs × (is_changed x rs ≡ is_some (records.image x rs))

list_of : (x : Uid) (l : Lists) → AreLists x l → (b : Uid) → IsList x (l.kept b)
list_of x l are b = (are.arranged b, are.changed b)

lists_from : (x : Uid) (l : Lists) → ((b : Uid) → IsList x (l.kept b)) → AreLists x l
lists_from x l all = record { arranged = λ b. (all b).0; changed = λ b. (all b).1 }

next_lists : (x : Uid) (s : Step) (l : Lists) → AreLists x l → AreLists x (list_step x s l)
next_lists x (Write holder tops v) l are = lists_from x (list_step x (Write holder tops v) l) (λ b. by b (uid_eq (last_uid holder) b))
  where
    rs : List (Record Value)
    rs = l.kept (last_uid holder)

    here : IsList x (written x l.now rs (are.arranged (last_uid holder)))
    here = (arranged_written x l.now rs (are.arranged (last_uid holder)), changed_written x l.now rs (are.arranged (last_uid holder)) ∙ sym (ap is_some (image_written x l.now rs (are.arranged (last_uid holder)))))

    by : (b : Uid) (t : Bool) → IsList x (cond t (written x l.now rs (are.arranged (last_uid holder))) (l.kept b))
    by b true = here
    by b false = list_of x l are b
next_lists x (Nested u h) l are = lists_from x (list_step x (Nested u h) l) (λ b. by b (uid_eq h b))
  where
    both : IsList x (merged (l.kept h) (l.kept u))
    both = (
      arranged_merged (l.kept h) (l.kept u) (are.arranged h) (are.arranged u),
      changed-merged (l.kept h) (l.kept u) x (are.arranged h) (are.arranged u)
          ∙ ((λ i. are.changed h i || are.changed u i)
          ∙ (sym (or_some (records.image x (l.kept h)) (records.image x (l.kept u)))
          ∙ sym (ap is_some (image-merged (l.kept h) (l.kept u) x (are.arranged h) (are.arranged u))))),
    )

    by : (b : Uid) (t : Bool) → IsList x (cond t (merged (l.kept h) (l.kept u)) (cond (uid_eq u b) [] (l.kept b)))
    by b true = both
    by b false = gone (IsList x) u l (tt, refl) (list_of x l are) b
next_lists x (Abort u) l are = lists_from x (list_step x (Abort u) l) (gone (IsList x) u l (tt, refl) (list_of x l are))
next_lists x (Top u) l are = lists_from x (list_step x (Top u) l) (gone (IsList x) u l (tt, refl) (list_of x l are))

-- ---- a list of calls

pub lists_stay : (x : Uid) (ss : List Step) (l : Lists) → AreLists x l → AreLists x (list_run x ss l)
lists_stay x [] l are = are
lists_stay x (s ∷ ss) l are = lists_stay x ss (list_step x s l) (next_lists x s l are)

lists_run : (x : Uid) (ss : List Step) (l : Lists) → AreLists x l → images_in x (list_run x ss l) ≡ image_run ss (images_in x l)
lists_run x [] l are = refl
lists_run x (s ∷ ss) l are = lists_run x ss (list_step x s l) (next_lists x s l are) ∙ ap (image_run ss) (one_list x s l are)

pub lists_agree : (x : Uid) (ss : List Step) (base : Base) (es : List Over) (l : Lists) → AllMay ss es → AreLists x l →
    images_in x l ≡ images base es → images_in x (list_run x ss l) ≡ images (base_run ss base es) (stack_run ss es)
lists_agree x ss base es l may are same = lists_run x ss l are ∙ (ap (image_run ss) same ∙ images_run ss base es may)

-- ---- ends

pub undo_is : (x u : Uid) (l : Lists) (i : Images) → AreLists x l → images_in x l ≡ i →
    restored x (undo_calls u (l.kept u)) ≡ option_to_list (i.before u)
undo_is x u l i are same = restored_once u x (l.kept u) (are.arranged u) ∙ ap (λ (i : Images). option_to_list (i.before u)) same

pub keep_is : (x u : Uid) (l : Lists) (i : Images) → AreLists x l → images_in x l ≡ i →
    records.raised x (keep_calls u (l.kept u)) ≡ cond (is_some (i.before u)) (u ∷ []) []
keep_is x u l i are same =
    raised_once u x (l.kept u) (are.arranged u) ∙ ((λ k. cond (are.changed u k) (u ∷ []) []) ∙ ap (λ (i : Images). cond (is_some (i.before u)) (u ∷ []) []) same)
