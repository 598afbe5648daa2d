-- What a store answers to a prepare is what the protocol says.
use Rattle.arj_law_store.proofs.Terms
use Terms.{◌≡◌, ◌≢◌, ◌⊎◌, ◌∙◌, ◌<◌, ◌||◌, Bool, true, false, cond, not, List, [], ◌∷◌, refl, sym, ap, subst, ⊎_elim, Option, Some, None, ℕ}
use Terms.{arith, option_map, unwrap_or, is_some, IsSome, IfSome, MatchOption, AllByRecursion, is_eq, bytes_eq, bytes_eq-Decides}
use Terms.{uid_order, state_bytes, StateInForm, uid_eq, ObjectState, Uid, state_once, uid_is, uid_same, uid_sym, uid_other, names, new_of}
use Terms.{IsPairOf, Pair, held_at, holder_of, at_uid, packed}
use Terms.files
use Rattle.arj_base.proofs.Packed.{class_once}
use Rattle.arj_base.specs.{State.class_code_of, State.head_of, declared.state.Format.Format}
use Rattle.arj_law_store.proofs.store.Keys.{Rises, order_itself, tied, first_gone}
use Rattle.arj_law_store.specs.store.{Laws.IsOwnAt, Prep.prep_of}
use Rattle.arj_protocol.specs.Effect.{names_object, state_eq, is_old, by_holder, refusal_of, refusal_in, first_refusal, prepare_answer}
use Rattle.arj_protocol.specs.Effect.{either}
use Rattle.arj_store.specs.declared.answer.Prep.{Prep}
use Rattle.std.proofs.Common.{◌==◌, ◌&&◌, nat_lt, find}
use Rattle.std.proofs.lemmas.{Bool.and_parts, Bool.eqb-true, Bool.eq-eqb, Bool.Decides.nat_tests}
use Rattle.std.specs.List.Sorted.{IsStrictlySortedBy}
use Rattle.arj_base.specs.declared.state.Format.TheVariants as format
use Rattle.arj_protocol.specs.Effect as protocol
use Rattle.arj_store.specs.declared.answer.Prep.TheVariants as prep

-- ---- who has prepared an object

-- what is told of an object by packed states, and by states
pub among_is : (u : Uid) (states : List ObjectState) → is_some (new_of (packed states) u) ≡ names_object u states
among_is u [] = refl
among_is u (s ∷ ss) = by (uid_eq u s.uid) refl (among_is u ss)
  where
    by : (b : Bool) → uid_eq u s.uid ≡ b → is_some (new_of (packed ss) u) ≡ names_object u ss →
        is_some (cond b (Some (state_bytes s)) (new_of (packed ss) u)) ≡ (uid_eq s.uid u || names_object u ss)
    by true is rest = λ i. sym (uid_sym s.uid u ∙ is) i || names_object u ss
    by false is rest = rest ∙ (λ i. sym (uid_sym s.uid u ∙ is) i || names_object u ss)

-- each entry of a list stands under its Uid
abbrev pub AreThere : files.Pair → List (Uid × List ObjectState) → Type 0
AreThere p es = AllByRecursion (λ (e : Uid × List ObjectState). p.pend e.0 ≡ Some (packed e.1)) es

there : (p : files.Pair) (d : Pair) (e : Uid × List ObjectState) → IsPairOf p d → at_uid e.0 d.pend ≡ Some e.1 →
    p.pend e.0 ≡ Some (packed e.1)
there p d e are at = are.pend e.0 ∙ ap (option_map packed) at

pub all_there : (p : files.Pair) (d : Pair) → IsPairOf p d → AreThere p d.pend
unfolding IsStrictlySortedBy
all_there p d are = walk d.pend are.pend_rises (λ e at. there p d e are at)
  where
    walk : (es : List (Uid × List ObjectState)) → Rises es →
        ((e : Uid × List ObjectState) → at_uid e.0 es ≡ Some e.1 → p.pend e.0 ≡ Some (packed e.1)) → AreThere p es
    walk [] rises at = tt
    walk (e ∷ es) rises at = (at e (rw (order_itself e.0) refl), walk es rises.1 (λ f found. at f (behind f found)))
      where
        behind : (f : Uid × List ObjectState) → at_uid f.0 es ≡ Some f.1 → at_uid f.0 (e ∷ es) ≡ Some f.1
        behind f found = by (is_eq (uid_order f.0 e.0)) refl
          where
            by : (b : Bool) → is_eq (uid_order f.0 e.0) ≡ b → cond b (Some e.1) (at_uid f.0 es) ≡ Some f.1
            by false isnt = found
            by true is = let never : None ≡ Some f.1 = sym
                (subst (λ w. at_uid w es ≡ None) (sym (tied f.0 e.0 is)) (first_gone e es rises)) ∙ found in absurd (cc never)

-- the entry's action has prepared the object
has_it : (p : files.Pair) (u : Uid) (e : Uid × List ObjectState) → p.pend e.0 ≡ Some (packed e.1) → names_object u e.1 ≡ true →
    names (p.pend e.0) u
has_it p u e is named = subst (λ o. names o u) (sym is) (among_is u e.1 ∙ named)

abbrev pub holder_in : Uid → List (Uid × List ObjectState) → Option Uid
holder_in u es = option_map (λ (e : Uid × List ObjectState). e.0) (find (λ (e : Uid × List ObjectState). names_object u e.1) es)

pub no_holder : (p : files.Pair) (u : Uid) (es : List (Uid × List ObjectState)) → AreThere p es → (files.InDoubt p u → ⊥) →
    holder_in u es ≡ None
no_holder p u [] all free = refl
no_holder p u (e ∷ es) all free = by (names_object u e.1) refl (no_holder p u es all.1 free)
  where
    by : (b : Bool) → names_object u e.1 ≡ b → holder_in u es ≡ None → option_map (λ (f : Uid × List ObjectState). f.0)
        (cond b (Some e) (find (λ (f : Uid × List ObjectState). names_object u f.1) es)) ≡ None
    by true is rest = absurd (free (e.0, has_it p u e all.0 is))
    by false is rest = rest

one_holder : (p : files.Pair) (u h : Uid) (states : List ObjectState) (es : List (Uid × List ObjectState)) → AreThere p es →
    ((a b : Uid) → names (p.pend a) u → names (p.pend b) u → a ≡ b)
    → names (p.pend h) u → at_uid h es ≡ Some states → names_object u states ≡ true → holder_in u es ≡ Some h
one_holder p u h states [] all once has at named = absurd (cc at)
one_holder p u h states (e ∷ es) all once has at named = by (names_object u e.1) refl (one_holder p u h states es all.1 once has)
  where
    by : (b : Bool) → names_object u e.1 ≡ b → (at_uid h es ≡ Some states → names_object u states ≡ true → holder_in u es ≡ Some h)
        → option_map (λ (f : Uid × List ObjectState). f.0)
        (cond b (Some e) (find (λ (f : Uid × List ObjectState). names_object u f.1) es)) ≡ Some h
    by true is rest = ap Some (once e.0 h (has_it p u e all.0 is) has)
    by false is rest = rest (later (is_eq (uid_order h e.0)) at) named
      where
        later : (t : Bool) → cond t (Some e.1) (at_uid h es) ≡ Some states → at_uid h es ≡ Some states
        later false found = found
        later true found = let same : e.1 ≡ states = cc found in
            let never : true ≡ false = sym named ∙ (ap (names_object u) (sym same) ∙ is) in absurd (cc never)

pub holder_is : (p : files.Pair) (d : Pair) (u h : Uid) → IsPairOf p d → ((a b : Uid) → names (p.pend a) u → names (p.pend b) u → a ≡ b) →
    names (p.pend h) u → holder_of u d ≡ Some h
holder_is p d u h are once has = by (at_uid h d.pend) refl
  where
    by : (o : Option (List ObjectState)) → at_uid h d.pend ≡ o → holder_of u d ≡ Some h
    by None is = absurd (subst (λ o. names o u) (are.pend h ∙ ap (option_map packed) is) has)
    by (Some states) is = one_holder p u h states d.pend (all_there p d are) once has is
        (sym (among_is u states) ∙ subst (λ o. names o u) (are.pend h ∙ ap (option_map packed) is) has)

-- ---- the committed state

-- the state under a Uid is the one that the files pack
held_is : (p : files.Pair) (d : Pair) (u : Uid) (t : ObjectState) → IsPairOf p d → held_at u d ≡ Some t → StateInForm t → t.uid ≡ u →
    files.IsHeld p u t
held_is p d u t are at form own = record { bytes = are.held u ∙ ap (option_map state_bytes) at; in_form = form; own = own }

same_state : (s : ObjectState) → state_eq s s ≡ true
same_state s = λ i. uid_same s.uid i && (eq-eqb (head_of s.format) (head_of s.format) refl i
    && (eq-eqb (class_code_of s.class) (class_code_of s.class) refl i
    && (eq-eqb s.version s.version refl i && (uid_same s.writer i && (bytes_eq-Decides s.payload s.payload).1 refl i))))

equal_states : (s t : ObjectState) → StateInForm s → StateInForm t → state_bytes s ≡ state_bytes t → state_eq s t ≡ true
equal_states s t fs ft is = subst (λ w. state_eq s w ≡ true) (state_once s t fs ft is) (same_state s)

-- each format has a head of its own length
head_once : (f g : Format) → head_of f ≡ head_of g → f ≡ g
head_once format.One format.One is = refl
head_once format.Two format.Two is = refl
head_once format.One format.Two is = let no_way : 47 ≡ 48 = is in absurd (omega (arith, no_way))
head_once format.Two format.One is = let no_way : 48 ≡ 47 = is in absurd (omega (arith, no_way))

packs_alike : (s t : ObjectState) → state_eq s t ≡ true → state_bytes s ≡ state_bytes t
packs_alike s t is =
    let rest = (s.version == t.version) && (uid_eq s.writer t.writer && bytes_eq s.payload t.payload) in
    let a = and_parts (uid_eq s.uid t.uid)
    ((head_of s.format == head_of t.format) && ((class_code_of s.class == class_code_of t.class) && rest)) is in
    let h = and_parts (head_of s.format == head_of t.format) ((class_code_of s.class == class_code_of t.class) && rest) a.1 in
    let b = and_parts (class_code_of s.class == class_code_of t.class) rest h.1 in
    let e = and_parts (s.version == t.version) (uid_eq s.writer t.writer && bytes_eq s.payload t.payload) b.1 in
    let f = and_parts (uid_eq s.writer t.writer) (bytes_eq s.payload t.payload) e.1 in
    let uid = uid_is s.uid t.uid a.0 in
    let format_is = head_once s.format t.format (eqb-true (head_of s.format) (head_of t.format) h.0) in
    let class_is = class_once s.class t.class (eqb-true (class_code_of s.class) (class_code_of t.class) b.0) in
    let version = eqb-true s.version t.version e.0 in
    let writer = uid_is s.writer t.writer f.0 in
    let payload = (bytes_eq-Decides s.payload t.payload).0 f.1 in
    λ i. state_bytes (record {
      uid = uid i;
      class = class_is i;
      version = version i;
      writer = writer i;
      payload = payload i;
      format = format_is i;
    })

no_older : (s t : ObjectState) → StateInForm s → StateInForm t → files.IsNoOlder s t → is_old s t ≡ false
no_older s t fs ft = ⊎_elim
    (λ (less : t.version < s.version). grind (arith, nat_tests))
    (λ (same : (t.version ≡ s.version) × (state_bytes t ≡ state_bytes s)). (λ i. nat_lt s.version t.version
    || ((s.version == t.version) && not (equal_states s t fs ft (sym same.1) i))) ∙ grind (arith, nat_tests, same.0))

is_older : (s t : ObjectState) (v : ℕ) → t.version ≡ v → (s.version < v) ⊎ ((s.version ≡ v) × (state_bytes s ≢ state_bytes t)) →
    is_old s t ≡ true
is_older s t v is = ⊎_elim
    (λ (less : s.version < v). grind (arith, nat_tests, is))
    (λ (same : (s.version ≡ v) × (state_bytes s ≢ state_bytes t)). (λ i. nat_lt s.version t.version
    || ((s.version == t.version) && not (differ (state_eq s t) refl same.1 i))) ∙ grind (arith, nat_tests, is, same.0))
  where
    differ : (b : Bool) → state_eq s t ≡ b → state_bytes s ≢ state_bytes t → state_eq s t ≡ false
    differ false isnt other = isnt
    differ true alike other = absurd (other (packs_alike s t alike))

-- ---- the refusal of one state

-- the committed state of an object, if there is one, with what is known of it
record IsKnownHeld (p : files.Pair) (d : Pair) (u : Uid) (o : Option ObjectState) : Type 0 where
  at : held_at u d ≡ o
  is : MatchOption o (p.held u ≡ None) (λ t. files.IsHeld p u t)

known_held : (p : files.Pair) (d : Pair) (u : Uid) → IsPairOf p d → IfSome (held_at u d) (λ t. StateInForm t × (t.uid ≡ u)) →
    IsKnownHeld p d u (held_at u d)
known_held p d u are own = by (held_at u d) refl own
  where
    by : (o : Option ObjectState) → held_at u d ≡ o → IfSome o (λ t. StateInForm t × (t.uid ≡ u)) → IsKnownHeld p d u o
    by None at own = record { at = at; is = are.held u ∙ ap (option_map state_bytes) at }
    by (Some t) at own = record { at = at; is = held_is p d u t are at own.0 own.1 }

-- a state that the files have is the one that stands there
one_held : (p : files.Pair) (u : Uid) (s t : ObjectState) → files.IsHeld p u s → files.IsHeld p u t → s ≡ t
one_held p u s t a b = state_once s t a.in_form b.in_form (cc (sym a.bytes ∙ b.bytes))

module _ (p : files.Pair) (d : Pair) (act : Uid) (are : IsPairOf p d) (once : (a b u : Uid) → names (p.pend a) u → names (p.pend b) u →
    a ≡ b) where
  clear_one : (s : ObjectState) → StateInForm s → IfSome (held_at s.uid d) (λ t. StateInForm t × (t.uid ≡ s.uid)) → files.IsClear p act s →
      refusal_in act d s ≡ None
  clear_one s form own clear = by (held_at s.uid d) (known_held p d s.uid are own)
    where
      free : holder_of s.uid d ≡ None
      free = no_holder p s.uid d.pend (all_there p d are) clear.free

      by : (o : Option ObjectState) → IsKnownHeld p d s.uid o → refusal_of act s o (holder_of s.uid d) ≡ None
      by None known = ap (by_holder s) free
      by (Some t) known =
          let follows = clear.follows t known.is in
          (λ i. cond (uid_other t.writer act follows.0 i) (Some (protocol.Already s.uid))
          (cond (no_older s t form known.is.in_form follows.1 i) (Some (protocol.Old s.uid t.version)) (by_holder s (free i))))

  refused_one : (s : ObjectState) (a : Prep) → StateInForm s → IfSome (held_at s.uid d) (λ t. StateInForm t × (t.uid ≡ s.uid)) →
      files.Refuses p act s a → refusal_in act d s ≡ Some (prep_of a)
  refused_one s prep.Prepared form own refuses = absurd refuses
  refused_one s (prep.Already uid by_act) form own refuses = by (held_at s.uid d) (known_held p d s.uid are own)
    where
      by : (o : Option ObjectState) → IsKnownHeld p d s.uid o → refusal_of act s o (holder_of s.uid d) ≡ Some (protocol.Already uid)
      by None known = absurd (cc (sym known.is ∙ refuses.2.1.bytes))
      by (Some t) known =
          let same : t ≡ refuses.2.0 = one_held p s.uid t refuses.2.0 known.is refuses.2.1 in
          let own_writer : uid_eq t.writer act ≡ true = subst (λ w. uid_eq w act ≡ true)
          (sym (ap (λ (x : ObjectState). x.writer) same ∙ refuses.2.2)) (uid_same act) in
          (λ i. cond (own_writer i) (Some (protocol.Already s.uid)) (cond (is_old s t) (Some (protocol.Old s.uid t.version))
          (by_holder s (holder_of s.uid d)))) ∙ ap (λ u. Some (protocol.Already u)) (sym refuses.0)
  refused_one s (prep.Old uid v) form own refuses = by (held_at s.uid d) (known_held p d s.uid are own)
    where
      by : (o : Option ObjectState) → IsKnownHeld p d s.uid o → refusal_of act s o (holder_of s.uid d) ≡ Some (protocol.Old uid v)
      by None known = absurd (cc (sym known.is ∙ refuses.2.1.bytes))
      by (Some t) known =
          let same : t ≡ refuses.2.0 = one_held p s.uid t refuses.2.0 known.is refuses.2.1 in
          let version : t.version ≡ v = ap (λ (x : ObjectState). x.version) same ∙ refuses.2.2 in
          let other : uid_eq t.writer act ≡ false = uid_other t.writer act (λ w. refuses.1 (t, known.is, w)) in
          let older : is_old s t ≡ true = is_older s t v version
          (subst (λ (x : ObjectState). (s.version < v) ⊎ ((s.version ≡ v) × (state_bytes s ≢ state_bytes x))) (sym same) refuses.2.3) in
          (λ i. cond (other i) (Some (protocol.Already s.uid)) (cond (older i) (Some (protocol.Old s.uid t.version))
          (by_holder s (holder_of s.uid d)))) ∙ (λ i. Some (protocol.Old (sym refuses.0 i) (version i)))
  refused_one s (prep.InDoubt uid holder) form own refuses = by (held_at s.uid d) (known_held p d s.uid are own)
    where
      held_by : holder_of s.uid d ≡ Some holder
      held_by = holder_is p d s.uid holder are (λ a b. once a b s.uid) refuses.2

      names_it : by_holder s (holder_of s.uid d) ≡ Some (protocol.InDoubt uid holder)
      names_it = ap (by_holder s) held_by ∙ ap (λ u. Some (protocol.InDoubt u holder)) (sym refuses.0)

      by : (o : Option ObjectState) → IsKnownHeld p d s.uid o → refusal_of act s o (holder_of s.uid d) ≡ Some (protocol.InDoubt uid holder)
      by None known = names_it
      by (Some t) known =
          let follows = refuses.1 t known.is in
          (λ i. cond (uid_other t.writer act follows.0 i) (Some (protocol.Already s.uid))
          (cond (no_older s t form known.is.in_form follows.1 i) (Some (protocol.Old s.uid t.version)) (names_it i)))

  -- ---- of all states

  all_clear : (states : List ObjectState) → AllByRecursion (IsOwnAt d) states → files.AreClear p act states →
      first_refusal act d states ≡ None
  all_clear [] own clear = refl
  all_clear (s ∷ ss) own clear = (λ i. either (clear_one s own.0.0 own.0.1 clear.0 i) (first_refusal act d ss)) ∙ all_clear ss own.1 clear.1

  one_refused : (states : List ObjectState) (a : Prep) → AllByRecursion (IsOwnAt d) states → files.IsRefused p act states a →
      first_refusal act d states ≡ Some (prep_of a)
  one_refused [] a own refused = absurd refused
  one_refused (s ∷ ss) a own refused = ⊎_elim
      (λ (here : files.Refuses p act s a). (λ i. either (refused_one s a own.0.0 own.0.1 here i) (first_refusal act d ss)))
      (λ (behind : files.IsClear p act s × files.IsRefused p act ss a).
      (λ i. either (clear_one s own.0.0 own.0.1 behind.0 i) (first_refusal act d ss)) ∙ one_refused ss a own.1 behind.1) refused

  -- the store's answer, and the pair behind it, where the action isn't prepared yet
  pub answer_is : (q : files.Pair) (states : List ObjectState) (a : Prep) → p.pend act ≡ None → AllByRecursion (IsOwnAt d) states →
      files.AnswersPrepare p q act states a → prepare_answer act states d ≡ prep_of a
  answer_is q states prep.Prepared first own answers = ⊎_elim
      (λ (again : IsSome (p.pend act) × files.SamePair p q). absurd (cc (subst IsSome first again.0)))
      (λ (new : files.Prepares p q act states). ap (λ o. unwrap_or o protocol.Ready) (all_clear states own new.clear)) answers
  answer_is q states (prep.InDoubt uid holder) first own answers =
      ap (λ o. unwrap_or o protocol.Ready) (one_refused states (prep.InDoubt uid holder) own answers.1)
  answer_is q states (prep.Old uid v) first own answers =
      ap (λ o. unwrap_or o protocol.Ready) (one_refused states (prep.Old uid v) own answers.1)
  answer_is q states (prep.Already uid by_act) first own answers =
      ap (λ o. unwrap_or o protocol.Ready) (one_refused states (prep.Already uid by_act) own answers.1)
