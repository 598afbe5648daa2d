-- The index keeps each object under each action that uses it.
use Rattle.std.proofs.Common.{◌≡◌, ◌⊎◌, inl, inr, ℕ, List, [], ◌∷◌, length, Bool, true, false, cond, ◌||◌, Option, Some, None, refl, sym}
use Rattle.std.proofs.Common.{◌∙◌, ap, subst, arith, rules}
use Rattle.std.specs.Prelude.{IsSome}
use Rattle.std.specs.BTreeMap.{BTreeMap, get, is_at}
use Rattle.std.specs.FinMap.{nat_cmp-IsAntisymmetric}
use Rattle.std.specs.List.{cons_option, AllByRecursion}
use Rattle.std.specs.List.Sorted.{IsStrictlySortedBy}
use Rattle.std.specs.Map.{keys_of, remove_entry, set_value}
use Rattle.std.specs.Ordering.{nat_cmp, is_eq, match_ordering}
use Rattle.std.specs.declared.cmp.Ordering.{Ordering}
use Rattle.std.specs.declared.cmp.Ordering.TheVariants.{Less, Equal, Greater}
use Rattle.std.proofs.lemmas.Bool.{both_ways, false_from_ne_true, or_cases, or_right}
use Rattle.arj_base.specs.declared.mode.End.{End}
use Rattle.arj_base.specs.declared.binding.Binding.{Binding}
use Rattle.arj_base.specs.declared.path.Path.{Path}
use Rattle.arj_base.specs.declared.state.ObjectState.{ObjectState}
use Rattle.arj_base.specs.declared.uid.Uid.{Uid}
use Rattle.arj_base.specs.Path.{uids_of}
use Rattle.arj_base.specs.Rows.{is_on}
use Rattle.arj_base.specs.Uid.{uid_eq, nobody}
use Rattle.arj_class.specs.declared.op.Op.{Op}
use Rattle.arj_lock.specs.Held.{set_order}
use Rattle.arj_protocol.specs.Copy.{Copy, changed_state, run_copy, taken_copy}
use Rattle.arj_protocol.specs.Order.{at_number, put_number}
use Rattle.arj_manager.specs.Index.{IsIndexed, answer_on, any_answers, ended_all, is_known, objects_of, picked, touches, uses}
use Rattle.arj_manager.specs.Manager.{Copies, changed_in, ended}
use Rattle.arj_manager.specs.declared.index.Known.{Known}
use Rattle.arj_manager.specs.declared.walk.Question.{Question}
use Rattle.arj_manager.specs.declared.walk.Question.TheVariants as question
use Rattle.arj_manager.proofs.Touching.{ends_touch, held_touches, no_state, run_touches, top_touches}
use Rattle.arj_manager.proofs.Puts.{put_found, put_same}
use Rattle.arj_manager.proofs.Walks.{all_ended, among, any_picked, at_is, made_picked}

order_exact : (a b : Uid) → set_order a b ≡ Equal → a ≡ b
order_exact a b e = search rules

-- ---- what holds of each entry

weaker : {X : Type 0} (P Q : X → Type 0) → ((x : X) → P x → Q x) → (xs : List X) → AllByRecursion P xs → AllByRecursion Q xs
weaker P Q f [] all = tt
weaker P Q f (x ∷ xs) all = (f x all.0, weaker P Q f xs all.1)

put_all : {X : Type 0} (P : ℕ × X → Type 0) (x : ℕ) (v : X) (m : List (ℕ × X)) → P (x, v) → AllByRecursion P m →
    AllByRecursion P (put_number x v m)
put_all P x v [] here all = (here, tt)
put_all {X} P x v (e ∷ es) here all = by (nat_cmp x e.0) refl (put_all P x v es here all.1)
  where
    by : (r : Ordering) → nat_cmp x e.0 ≡ r → AllByRecursion P (put_number x v es) →
        AllByRecursion P (match_ordering r ((x, v) ∷ e ∷ es) ((e.0, v) ∷ es) (e ∷ put_number x v es))
    by Less is ih = (here, (all.0, all.1))
    by Equal is ih = (subst (λ n. P (n, v)) (nat_cmp-IsAntisymmetric x e.0 is) here, all.1)
    by Greater is ih = (all.0, ih)

removed_all : {X : Type 0} (P : ℕ × X → Type 0) (t : ℕ → Bool) (m : List (ℕ × X)) → AllByRecursion P m → AllByRecursion P (remove_entry t m)
removed_all P t [] all = tt
removed_all {X} P t (e ∷ es) all = by (t e.0) (removed_all P t es all.1)
  where
    by : (b : Bool) → AllByRecursion P (remove_entry t es) → AllByRecursion P (cond b es (e ∷ remove_entry t es))
    by true ih = all.1
    by false ih = (all.0, ih)

-- ---- the index after each change

-- more may stand in it
pub more_indexed : (i j : BTreeMap Uid Known) (m : Copies) → ((u : Uid) (y : ℕ) → uses i u y ≡ true → uses j u y ≡ true) → IsIndexed i m →
    IsIndexed j m
more_indexed i j m stays all = weaker _ _ (λ e here u on. stays u e.0 (here u on)) m all

pub put_indexed : (index : BTreeMap Uid Known) (x : ℕ) (c : Copy) (m : Copies) → ((u : Uid) → touches u c ≡ true → uses index u x ≡ true) →
    IsIndexed index m → IsIndexed index (put_number x c m)
put_indexed index x c m here all = put_all (λ (e : ℕ × Copy). (u : Uid) → touches u e.1 ≡ true → uses index u e.0 ≡ true) x c m here all

pub removed_indexed : (index : BTreeMap Uid Known) (t : ℕ → Bool) (m : Copies) → IsIndexed index m → IsIndexed index (remove_entry t m)
removed_indexed index t m all = removed_all (λ (e : ℕ × Copy). (u : Uid) → touches u e.1 ≡ true → uses index u e.0 ≡ true) t m all

pub ended_indexed : (index : BTreeMap Uid Known) (a : Uid) (e : End) (m : Copies) → IsIndexed index m → IsIndexed index (ended a e m)
ended_indexed index a e [] all = tt
ended_indexed index a e (d ∷ ds) all = (λ u on. all.0 u (ends_touch u a e d.1 on), ended_indexed index a e ds all.1)

-- ---- walks along it

known_among : (o : Option Known) (x : ℕ) → is_known x o ≡ among (objects_of o) x
known_among None x = refl
known_among (Some known) x = refl

answers_touch : (u : Uid) (q : Question) (c : Copy) → answer_on q u c ≡ true → touches u c ≡ true
answers_touch u question.Holds c on = held_touches u c on
answers_touch u question.Tops c on = top_touches u c on
answers_touch u question.Uses c on = on

-- the action's objects are all that it uses
module _ (index : BTreeMap Uid Known) (u : Uid) (o : Option Known) (is : get set_order index u ≡ o) where
  -- the action's objects
  abbrev xs : List ℕ
  xs = objects_of o

  reach : (y : ℕ) → uses index u y ≡ true → among xs y ≡ true
  reach y on = sym (known_among o y) ∙ (ap (is_known y) (sym is) ∙ on)

  pub walk_ends : (e : End) (m : Copies) → IsStrictlySortedBy nat_cmp xs → IsIndexed index m → ended_all u e xs m ≡ ended u e m
  walk_ends e m sorted all = all_ended u e xs m sorted (weaker _ _ (λ d here on. reach d.0 (here u on)) m all)

  pub walk_any : (q : Question) (m : Copies) → IsStrictlySortedBy nat_cmp xs → IsStrictlySortedBy nat_cmp (keys_of m) → IsIndexed index m →
      any_answers q u (picked xs m) ≡ any_answers q u m
  walk_any q m sorted ordered all =
      any_picked (λ (d : ℕ × Copy). answer_on q u d.1) xs m sorted ordered (weaker _ _ (λ d here on. reach d.0 (here u (answers_touch u q d.1 on))) m all)

  pub walk_states : (m : Copies) → IsStrictlySortedBy nat_cmp xs → IsStrictlySortedBy nat_cmp (keys_of m) → IsIndexed index m →
      changed_in u (picked xs m) ≡ changed_in u m
  walk_states m sorted ordered all = made_picked (λ (d : ℕ × Copy). changed_state u d.0 d.1) xs m sorted ordered (weaker _ _ unread m all)
    where
      unread : (d : ℕ × Copy) → ((w : Uid) → touches w d.1 ≡ true → uses index w d.0 ≡ true) → among xs d.0 ≡ false →
          changed_state u d.0 d.1 ≡ None
      unread d here off =
          no_state u d.0 d.1 (false_from_ne_true (touches u d.1) (λ on. both_ways (among xs d.0) off (reach d.0 (here u on))))

  -- who is unknown, or used by nobody that is there, may go
  pub walk_unused : (j : BTreeMap Uid Known) (m : Copies) → IsStrictlySortedBy nat_cmp xs → IsStrictlySortedBy nat_cmp (keys_of m) →
      any_answers question.Uses u (picked xs m) ≡ false
      → ((w : Uid) (y : ℕ) → uses index w y ≡ true → (uses j w y ≡ true) ⊎ (w ≡ u)) → IsIndexed index m → IsIndexed j m
  walk_unused j m sorted ordered unused stays all = go m (sym (walk_any question.Uses m sorted ordered all) ∙ unused) all
    where
      go : (m : Copies) → any_answers question.Uses u m ≡ false → IsIndexed index m → IsIndexed j m
      go [] unused all = tt
      go (d ∷ ds) unused all = ((λ w on. by w on (stays w d.0 (all.0 w on))), go ds (rest (touches u d.1) unused) all.1)
        where
          rest : (b : Bool) → (b || any_answers question.Uses u ds) ≡ false → any_answers question.Uses u ds ≡ false
          rest true off = absurd (cc off)
          rest false off = off

          first : (b : Bool) → (b || any_answers question.Uses u ds) ≡ false → b ≡ false
          first true off = absurd (cc off)
          first false off = refl

          by : (w : Uid) → touches w d.1 ≡ true → (uses j w d.0 ≡ true) ⊎ (w ≡ u) → uses j w d.0 ≡ true
          by w on (inl stays) = stays
          by w on (inr same) = absurd (both_ways (touches u d.1) (first (touches u d.1) unused) (ap (λ v. touches v d.1) (sym same) ∙ on))

-- ---- calls

-- what holds of each entry holds of the one that is found
found_all : (P : ℕ × Copy → Type 0) (x : ℕ) (c : Copy) (m : Copies) → AllByRecursion P m → at_number x m ≡ Some c → P (x, c)
found_all P x c [] all at = absurd (cc at)
found_all P x c (d ∷ ds) all at = by (is_at (nat_cmp x) d.0) refl (found_all P x c ds all.1) at
  where
    by : (b : Bool) → is_at (nat_cmp x) d.0 ≡ b → (at_number x ds ≡ Some c → P (x, c)) → cond b (Some d.1) (at_number x ds) ≡ Some c →
        P (x, c)
    by true is ih at = let found : d.1 ≡ c = cc at in subst P (λ i. (sym (at_is x d.0 is) i, found i)) all.0
    by false is ih at = ih at

-- an activation notes the object under nobody
pub activated_indexed : (i j : BTreeMap Uid Known) (x : ℕ) (b : Binding) (s : ObjectState) (c : Copy) (m : Copies) → c ≡ taken_copy b s
    → ((u : Uid) → uses j u x ≡ (uses i u x || uid_eq nobody u)) → ((u : Uid) (y : ℕ) → uses i u y ≡ true → uses j u y ≡ true) →
    IsIndexed i m → IsIndexed j (put_number x c m)
activated_indexed i j x b s c m taken here stays all =
    put_indexed j x c m (λ u on. by u (or_cases (uid_eq nobody u) false (ap (touches u) (sym taken) ∙ on))) (more_indexed i j m stays all)
  where
    by : (u : Uid) → (uid_eq nobody u ≡ true) ⊎ (false ≡ true) → uses j u x ≡ true
    by u (inl is) = here u ∙ or_right (uses i u x) (uid_eq nobody u) is
    by u (inr never) = absurd (cc never)

-- an operation notes it under each action of its path
pub ran_indexed : (i j : BTreeMap Uid Known) (n : ℕ) (p : Path) (x : ℕ) (op : Op) (c new : Copy) (m es : Copies) →
    IsStrictlySortedBy nat_cmp (keys_of m) → at_number x m ≡ Some c
    → es ≡ set_value (is_at (nat_cmp x)) m new → new ≡ (run_copy n p x op c).part →
    ((u : Uid) → is_on (uids_of p) u ≡ true → uses j u x ≡ true)
    → ((u : Uid) (y : ℕ) → uses i u y ≡ true → uses j u y ≡ true) → IsIndexed i m → IsIndexed j es
ran_indexed i j n p x op c new m es sorted at written ran here stays all =
    subst (IsIndexed j) (sym (written ∙ put_found x new m sorted (subst IsSome (sym at) refl)))
    (put_indexed j x new m (λ u on. by u (is_on (uids_of p) u) refl (ap (touches u) (sym ran) ∙ on)) (more_indexed i j m stays all))
  where
    by : (u : Uid) (b : Bool) → is_on (uids_of p) u ≡ b → touches u (run_copy n p x op c).part ≡ true → uses j u x ≡ true
    by u true is on = here u is
    by u false is on =
        stays u x (found_all (λ (e : ℕ × Copy). (u : Uid) → touches u e.1 ≡ true →
        uses i u e.0 ≡ true) x c m all at u (run_touches u n p x op c is on))

-- a fault leaves it
pub fault_indexed : (i j : BTreeMap Uid Known) (x : ℕ) (c new : Copy) (m es : Copies) → at_number x m ≡ Some c →
    es ≡ set_value (is_at (nat_cmp x)) m new → new ≡ c
    → ((u : Uid) (y : ℕ) → uses i u y ≡ true → uses j u y ≡ true) → IsIndexed i m → IsIndexed j es
fault_indexed i j x c new m es at written is stays all =
    subst (IsIndexed j) (sym (put_same x m m es c new refl at written is)) (more_indexed i j m stays all)

-- nothing is picked out of nothing
pub none_picked : (xs : List ℕ) (m : Copies) (n : ℕ) → n ≡ length m → n ≡ 0 → picked xs m ≡ []
none_picked xs [] n is none = nothing xs
  where
    nothing : (xs : List ℕ) → picked xs [] ≡ []
    nothing [] = refl
    nothing (x ∷ xs) = nothing xs
none_picked xs (d ∷ ds) n is none = absurd (omega (arith, is, none))

-- ---- an action that isn't known

module _ (index : BTreeMap Uid Known) (u : Uid) (none : get set_order index u ≡ None) where
  unused : (d : ℕ × Copy) → ((w : Uid) → touches w d.1 ≡ true → uses index w d.0 ≡ true) → touches u d.1 ≡ false
  unused d here = false_from_ne_true (touches u d.1) (λ on. both_ways false refl (ap (is_known d.0) (sym none) ∙ here u on))

  pub unknown_any : (q : Question) (m : Copies) → IsIndexed index m → false ≡ any_answers q u m
  unknown_any q [] all = refl
  unknown_any q (d ∷ ds) all =
      let off : answer_on q u d.1 ≡ false =
      false_from_ne_true (answer_on q u d.1) (λ on. both_ways (touches u d.1) (unused d all.0) (answers_touch u q d.1 on)) in
      λ i. sym off i || unknown_any q ds all.1 i

  pub unknown_states : (m : Copies) → IsIndexed index m → [] ≡ changed_in u m
  unknown_states [] all = refl
  unknown_states (d ∷ ds) all = λ i. cons_option (sym (no_state u d.0 d.1 (unused d all.0)) i) (unknown_states ds all.1 i)

-- who is taken out of the index is the only one that is
pub removed_uses : (i j : BTreeMap Uid Known) (u : Uid) →
    ((q : Uid) → get set_order j q ≡ cond (is_at (set_order u) q) None (get set_order i q)) → (w : Uid) (y : ℕ) → uses i w y ≡ true →
    (uses j w y ≡ true) ⊎ (w ≡ u)
removed_uses i j u left w y on = by (set_order u w) refl (left w)
  where
    by : (r : Ordering) → set_order u w ≡ r → get set_order j w ≡ cond (is_eq r) None (get set_order i w) → (uses j w y ≡ true) ⊎ (w ≡ u)
    by Less is same = inl (ap (is_known y) same ∙ on)
    by Greater is same = inl (ap (is_known y) same ∙ on)
    by Equal is same = inr (sym (order_exact u w is))
