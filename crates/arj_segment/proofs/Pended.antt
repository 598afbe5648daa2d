-- Pending files that are read one after the other.
use Rattle.std.proofs.Common.{◌≡◌, ◌≢◌, ◌∙◌, true, false, true≢false, Bool, ℕ, List, [], ◌∷◌, ◌++◌, ◌<◌, ◌≤◌, ◌+◌, refl, sym, ap, subst}
use Rattle.std.proofs.Common.{⊎_elim, map, take, get_or, length, Option, Some, None}
use Rattle.std.specs.Prelude.{IsSome, is_some, Contains, MatchOption, option_map, if◌then◌else◌}
use Rattle.std.specs.List.{AllByRecursion}
use Rattle.std.specs.List.Sorted.{IsStrictlySortedBy}
use Rattle.std.specs.declared.cmp.Ordering.TheVariants.{Less}
use Rattle.std.proofs.lemmas.List.{take_more, take_all}
use Rattle.std.proofs.lemmas.List.Elements.{Contains-append_left, Contains-push}
use Rattle.arj_base.specs.State.{StateInForm}
use Rattle.arj_base.specs.declared.state.ObjectState.{ObjectState}
use Rattle.arj_base.specs.declared.uid.Uid.{Uid}
use Rattle.arj_disk.specs.FileMap.{FileMap}
use Rattle.arj_disk.specs.Says.{names}
use Rattle.arj_disk.specs.declared.slot.Role.{Role}
use Rattle.arj_disk.specs.declared.slot.Slot.TheVariants as slot
use Rattle.arj_segment_file.specs.Format.{states_in}
use Rattle.arj_segment.specs.Says.{pend}
use Rattle.arj_store.proofs.Finding.{contained}
use Rattle.arj_store.proofs.Lists.{all_more}
use Rattle.arj_store.proofs.Uids.{in_or_last, out_of_more, uid_cases}
use Rattle.arj_store.specs.Effects.{objects}
use Rattle.arj_store.specs.Pair.{packed, uid_order}
use Rattle.arj_store.specs.Shadow.{is_in}
use Rattle.arj_store.specs.Table.{Sets, SameTable}
use Rattle.arj_segment.proofs.Gathered.{none_either}
use Rattle.arj_segment.proofs.Numbers.{all_of}
use Rattle.arj_segment.proofs.Pend.{pend_added}
use Rattle.arj_segment.proofs.Picked.{all_map, before_order, sorted_push}
use Rattle.arj_segment.specs.Tables.{KeepsPend, ListsPends, ReadsPending, SetsEach}

-- what these actions alone have prepared
abbrev pub only_of : List Uid → (Uid → Option (List (Uid × List ℕ))) → Uid → Option (List (Uid × List ℕ))
only_of acts prepared a = if is_in acts a then prepared a else None

-- what is read of the actions so far
pub record HasRead (acts : List Uid) (prepared : Uid →
    Option (List (Uid × List ℕ))) (pends : List (Uid × List ObjectState)) (actions : Uid → Option (List Uid)) (holdings : Uid →
    Option Uid) : Type 0 where
  pub keeps : KeepsPend (only_of acts prepared) actions holdings
  pub each : AllByRecursion (λ e. (prepared e.0 ≡ Some (packed e.1)) × AllByRecursion StateInForm e.1) pends
  pub every : (a : Uid) → is_in acts a ≡ true → IsSome (prepared a) → Contains (map (λ e. e.0) pends) a
  pub from : AllByRecursion (λ a. Contains acts a) (map (λ e. e.0) pends)
  pub by_action : IsStrictlySortedBy uid_order (map (λ e. e.0) pends)

pub read_none : (prepared : Uid → Option (List (Uid × List ℕ))) (actions : Uid → Option (List Uid)) (holdings : Uid → Option Uid) →
    ((a : Uid) → actions a ≡ None) → ((u : Uid) → holdings u ≡ None) → HasRead [] prepared [] actions holdings
unfolding IsStrictlySortedBy
read_none prepared actions holdings no_action no_holder = record {
  keeps = record {
    actions_are = no_action;
    holders_are =
        λ u. subst (λ h. MatchOption h ((a : Uid) → names None u → ⊥) (λ a. names None u)) (sym (no_holder u)) (λ a never. never);
  };
  each = tt;
  every = λ a is. absurd (true≢false (sym is));
  from = tt;
  by_action = tt;
}

names_push : (pends : List (Uid × List ObjectState)) (e : Uid × List ObjectState) →
    map (λ e. e.0) (pends ++ e ∷ []) ≡ map (λ e. e.0) pends ++ e.0 ∷ []
names_push [] e = refl
names_push (f ∷ fs) e = ap (λ us. f.0 ∷ us) (names_push fs e)

last_in : (acts : List Uid) (a : Uid) → is_in (acts ++ a ∷ []) a ≡ true
last_in acts a = contained (acts ++ a ∷ []) a (Contains-push acts a)

module _ (acts : List Uid) (act : Uid) (prepared : Uid → Option (List (Uid × List ℕ))) where
  others : (a : Uid) → a ≢ act → only_of (acts ++ act ∷ []) prepared a ≡ only_of acts prepared a
  others a other = ap (λ b. if b then prepared a else None) (by (is_in (acts ++ act ∷ []) a) refl)
    where
      by : (b : Bool) → is_in (acts ++ act ∷ []) a ≡ b → b ≡ is_in acts a
      by true is = ⊎_elim (λ (e : a ≡ act). absurd (other e)) (λ (h : (a ≢ act) × (is_in acts a ≡ true)). sym h.1) (in_or_last acts act a is)
      by false isnt = sym (out_of_more acts act a isnt).1

  here : only_of (acts ++ act ∷ []) prepared act ≡ prepared act
  here = ap (λ b. if b then prepared act else None) (last_in acts act)

  was : (u : Uid) → names (only_of acts prepared act) u → names (prepared act) u
  was u = by (is_in acts act)
    where
      by : (b : Bool) → names (if b then prepared act else None) u → names (prepared act) u
      by true named = named
      by false never = absurd never

  module _ (pends pends' : List (Uid × List ObjectState)) (actions actions' : Uid → Option (List Uid)) (holdings holdings' : Uid →
      Option Uid) (before : AllByRecursion (λ b. uid_order b act ≡ Less) acts) (has : HasRead acts prepared pends actions holdings) where
    was_in : (a : Uid) → a ≢ act → is_in (acts ++ act ∷ []) a ≡ true → is_in acts a ≡ true
    was_in a other is =
        ⊎_elim (λ (e : a ≡ act). absurd (other e)) (λ (h : (a ≢ act) × (is_in acts a ≡ true)). h.1) (in_or_last acts act a is)

    -- the action has prepared nothing
    read_nothing : prepared act ≡ None → pends' ≡ pends → SameTable actions actions' → SameTable holdings holdings' →
        HasRead (acts ++ act ∷ []) prepared pends' actions' holdings'
    read_nothing none same same_actions same_holdings =
        subst (λ ps. HasRead (acts ++ act ∷ []) prepared ps actions' holdings') (sym same) (record {
          keeps = moved;
          each = has.each;
          every = λ a is some. ⊎_elim (λ (e : a ≡ act). absurd (true≢false (sym some ∙ ap is_some (ap prepared e ∙ none)))) (λ (other : a ≢ act). has.every a (was_in a other is) some) (uid_cases a act);
          from = all_map (λ a. Contains acts a) (λ a. Contains (acts ++ act ∷ []) a) (map (λ e. e.0) pends) (λ a is. Contains-append_left acts (act ∷ []) a is) has.from;
          by_action = has.by_action;
        })
      where
        all_same : only_of (acts ++ act ∷ []) prepared ≡ only_of acts prepared
        all_same = λ i a. one a i
          where
            one : (a : Uid) → only_of (acts ++ act ∷ []) prepared a ≡ only_of acts prepared a
            one a = ⊎_elim (λ (e : a ≡ act). ap (only_of (acts ++ act ∷ []) prepared) e ∙ here ∙ none ∙ sym (none_either (is_in acts act) (prepared act) none) ∙ ap (only_of acts prepared) (sym e)) (λ (other : a ≢ act). others a other) (uid_cases a act)

        moved : KeepsPend (only_of (acts ++ act ∷ []) prepared) actions' holdings'
        moved = subst (λ p. KeepsPend p actions' holdings') (sym all_same) (subst (λ f. KeepsPend (only_of acts prepared) f holdings') (λ i a. sym (same_actions a) i)
            (subst (KeepsPend (only_of acts prepared) actions) (λ i u. sym (same_holdings u) i) has.keeps))

    -- the action has prepared these states
    read_states : (states : List ObjectState) → prepared act ≡ Some (packed states) → AllByRecursion StateInForm states →
        pends' ≡ pends ++ (act, states) ∷ [] → Sets actions actions' act (Some (objects (packed states)))
        → SetsEach (objects (packed states)) (Some act) holdings holdings' → HasRead (acts ++ act ∷ []) prepared pends' actions' holdings'
    read_states states is in_form more sets each =
        subst (λ ps. HasRead (acts ++ act ∷ []) prepared ps actions' holdings') (sym more) (record {
          keeps = pend_added (only_of acts prepared) (only_of (acts ++ act ∷ []) prepared) act (packed states) others actions actions' holdings holdings' has.keeps
              (λ u named. subst (λ o. names o u) is (was u named)) (here ∙ is) sets each;
          each = all_more (λ e. (prepared e.0 ≡ Some (packed e.1)) × AllByRecursion StateInForm e.1) pends (act, states) has.each (is, in_form);
          every = λ a among some. subst (λ us. Contains us a) (sym (names_push pends (act, states)))
              (⊎_elim (λ (e : a ≡ act). subst (Contains (map (λ e. e.0) pends ++ act ∷ [])) (sym e) (Contains-push (map (λ e. e.0) pends) act))
              (λ (other : a ≢ act). Contains-append_left (map (λ e. e.0) pends) (act ∷ []) a (has.every a (was_in a other among) some)) (uid_cases a act));
          from = subst (AllByRecursion (λ a. Contains (acts ++ act ∷ []) a)) (sym (names_push pends (act, states)))
              (all_more (λ a. Contains (acts ++ act ∷ []) a) (map (λ e. e.0) pends) act
              (all_map (λ a. Contains acts a) (λ a. Contains (acts ++ act ∷ []) a) (map (λ e. e.0) pends) (λ a among. Contains-append_left acts (act ∷ []) a among) has.from) (Contains-push acts act));
          by_action = subst (IsStrictlySortedBy uid_order) (sym (names_push pends (act, states)))
              (sorted_push uid_order (map (λ e. e.0) pends) act has.by_action (all_map (λ a. Contains acts a) (λ a. uid_order a act ≡ Less) (map (λ e. e.0) pends) (λ a among. all_of (λ b. uid_order b act ≡ Less) acts before a among) has.from));
        })

    read_one : ReadsPending (prepared act) act pends actions holdings pends' actions' holdings' →
        HasRead (acts ++ act ∷ []) prepared pends' actions' holdings'
    read_one reads = by (prepared act) refl reads
      where
        by : (o : Option (List (Uid × List ℕ))) → prepared act ≡ o → ReadsPending o act pends actions holdings pends' actions' holdings' →
            HasRead (acts ++ act ∷ []) prepared pends' actions' holdings'
        by None none same = read_nothing none same.0 same.1 same.2
        by (Some es) is r =
            read_states r.0 (is ∙ ap Some (sym r.1)) r.2 r.3 (subst (λ us. Sets actions actions' act (Some (objects us))) (sym r.1) r.4) (subst (λ us. SetsEach (objects us) (Some act) holdings holdings') (sym r.1) r.5)

pub read_next : (acts : List Uid) (i : ℕ) (d : Uid) (prepared : Uid →
    Option (List (Uid × List ℕ))) (pends pends' : List (Uid × List ObjectState)) (actions actions' : Uid →
    Option (List Uid)) (holdings holdings' : Uid → Option Uid)
    → IsStrictlySortedBy uid_order acts → i < length acts → HasRead (take i acts) prepared pends actions holdings
    → ReadsPending (prepared (get_or acts i d)) (get_or acts i d) pends actions holdings pends' actions' holdings' →
    HasRead (take (i + 1) acts) prepared pends' actions' holdings'
read_next acts i d prepared pends pends' actions actions' holdings holdings' sorted within has reads =
    subst (λ us. HasRead us prepared pends' actions' holdings') (sym (take_more acts i d within))
    (read_one (take i acts) (get_or acts i d) prepared pends pends' actions actions' holdings holdings' (before_order uid_order acts i d sorted within) has reads)

module _ (acts : List Uid) (i : ℕ) (long : length acts ≤ i) (prepared : Uid → Option (List (Uid × List ℕ))) (there : (a : Uid) →
    IsSome (prepared a) → Contains acts a)
    (pends : List (Uid × List ObjectState)) (actions : Uid → Option (List Uid)) (holdings : Uid →
    Option Uid) (has : HasRead (take i acts) prepared pends actions holdings) where
  all : HasRead acts prepared pends actions holdings
  all = subst (λ us. HasRead us prepared pends actions holdings) (take_all i acts long) has

  all_of_them : only_of acts prepared ≡ prepared
  all_of_them = λ i a. one a (prepared a) refl i
    where
      one : (a : Uid) (o : Option (List (Uid × List ℕ))) → prepared a ≡ o → only_of acts prepared a ≡ prepared a
      one a None none = none_either (is_in acts a) (prepared a) none ∙ sym none
      one a (Some es) is = ap (λ b. if b then prepared a else None) (contained acts a (there a (ap is_some is)))

  pub read_keeps : KeepsPend prepared actions holdings
  read_keeps = subst (λ p. KeepsPend p actions holdings) all_of_them all.keeps

  pub read_lists : ListsPends prepared pends
  read_lists = record { each = all.each; every = λ a some. all.every a (contained acts a (there a some)) some; by_action = all.by_action }

-- whoever has prepared anything has a Pending file
pub file_there : (file : FileMap) (role : Role) (a : Uid) → IsSome (pend file role a) → IsSome (file (slot.Pending role a))
file_there file role a = by (file (slot.Pending role a))
  where
    by : (o : Option (List ℕ)) → IsSome (option_map states_in o) → IsSome o
    by None never = never
    by (Some bytes) some = refl
