-- What naming has found where it answers a Confirm with a conflict.
use Rattle.arj_law_parts.proofs.Words
use Words.{◌≡◌, ◌⊎◌, ◌∙◌, ◌==◌, ◌&&◌, ◌||◌, ℕ, List, [], ◌∷◌, Bool, true, false, cond, not, Option, Some, None, refl, sym, ap, subst, inl}
use Words.{inr}
use Words.{⊎_elim, filter, map, is_some, if◌then◌else◌, list_any, option_map, unwrap_or, In, Uid, Entry, ObjectState}
use Words.{ConfirmedReply, Path}
use Words.{Row, Mode, entry, is_listed, is_on, last_uid, nobody, top_of, Grants, Marks, checked, confirm, confirm_entries, confirm_new}
use Words.{confirms}
use Words.{conflict_in, either, cons_option, filter_map, entries_after, entry_after, entry_state, first_of_each, has_all, is_bare, is_there}
use Words.{is_wanted}
use Words.{lock_all, marked, other_grant, prepared_by, refused_exclude, same_nodes, stores_after, without_stores, wanted, wants_lock, Pair}
use Words.{Prep, Ready}
use Words.{Already, Old, InDoubt, Did, Served, held_at, holder_of, is_prepared, prepare_answer, first_refusal, refusal_in, refusal_of}
use Words.{by_holder, is_old, uid_is}
use Words.{reply, void, Naming, is_over, at_number, state_entry, uid_eq, with_stores, listed_entry}
use Words.confirmed
use Words.mode
use Words.what
use Rattle.arj_law_lock_view.proofs.Terms.{some_is}
use Rattle.arj_law_disk_view.proofs.Terms.{never, or_left, or_right, test_same}
use Rattle.arj_law_disk_view.proofs.view.{ConfirmSteps.take_out, ConfirmWalks.both_none}

-- whom a conflict names, and in which mode
abbrev holder_in : ConfirmedReply → Uid
holder_in (confirmed.Conflict u m) = u
holder_in q = nobody

abbrev mode_in : ConfirmedReply → Mode
mode_in (confirmed.Conflict u m) = m
mode_in q = mode.Write

-- ---- the first that refuses

abbrev Found : {A : Type 0} → (A → Option ConfirmedReply) → List A → ConfirmedReply → Type 0
Found {A} f xs r = (a : A) × In a xs × (f a ≡ Some r)

first_met : {A : Type 0} (f : A → Option ConfirmedReply) (xs : List A) (r : ConfirmedReply) → first_of_each f xs ≡ Some r → Found f xs r
first_met f [] r h = absurd (cc h)
first_met f (x ∷ xs) r h = by (f x) refl h (λ more. first_met f xs r more)
  where
    by : (o : Option ConfirmedReply) → f x ≡ o → either o (first_of_each f xs) ≡ Some r →
        (first_of_each f xs ≡ Some r → Found f xs r) → Found f (x ∷ xs) r
    by None e h ih = let z = ih h in (z.0, inr z.1, z.2)
    by (Some q) e h ih = (x, inl refl, e ∙ h)

in_wanted : (f : ℕ → Bool) (y : ℕ) (xs : List ℕ) → In y (filter f xs) → f y ≡ true
in_wanted f y [] i = absurd i
in_wanted f y (x ∷ xs) i = by (f x) refl i (λ more. in_wanted f y xs more)
  where
    by : (b : Bool) → f x ≡ b → In y (cond b (x ∷ filter f xs) (filter f xs)) → (In y (filter f xs) → f y ≡ true) → f y ≡ true
    by true e (inl same) ih = ap f (sym same) ∙ e
    by true e (inr more) ih = ih more
    by false e i ih = ih i

-- a list of which some pass has one that stands in it
some_listed : (f : ℕ → Bool) (ss : List ℕ) → list_any f ss ≡ true → (s : ℕ) × (is_listed s ss ≡ true)
some_listed f [] is = absurd (cc is)
some_listed f (s ∷ ss) is = (s, or_left (s == s) (is_listed s ss) (test_same s))

-- ---- lists that change

same_again : (ss : List ℕ) → same_nodes ss ss ≡ true
same_again [] = refl
same_again (s ∷ ss) = λ i. test_same s i && same_again ss i

out_or_same : (ms ss : List ℕ) → ((s : ℕ) × (is_listed s ss ≡ true) × (is_listed s ms ≡ true)) ⊎
    (filter (λ s. not (is_listed s ms)) ss ≡ ss)
out_or_same ms [] = inr refl
out_or_same ms (s ∷ ss) = by (is_listed s ms) refl (out_or_same ms ss)
  where
    by : (b : Bool) → is_listed s ms ≡ b →
        ((r : ℕ) × (is_listed r ss ≡ true) × (is_listed r ms ≡ true)) ⊎ (filter (λ r. not (is_listed r ms)) ss ≡ ss) →
        ((r : ℕ) × (is_listed r (s ∷ ss) ≡ true) × (is_listed r ms ≡ true))
        ⊎ (cond (not b) (s ∷ filter (λ r. not (is_listed r ms)) ss) (filter (λ r. not (is_listed r ms)) ss) ≡ s ∷ ss)
    by true e rest = inl (s, or_left (s == s) (is_listed s ss) (test_same s), e)
    by false e (inl z) = inl (z.0, or_right (s == z.0) (is_listed z.0 ss) z.1, z.2)
    by false e (inr same) = inr (ap (λ l. s ∷ l) same)

-- a list that a top changes: it includes a store, or excludes one that is listed
pub changed_by : (y : ℕ) (excluded included : Marks) (e : Entry) → same_nodes (stores_after y excluded included e) e.stores ≡ false →
    ((s : ℕ) × (is_listed s (marked y included) ≡ true)) ⊎
    ((s : ℕ) × (is_listed s e.stores ≡ true) × (is_listed s (marked y excluded) ≡ true))
changed_by y excluded included e off = by (marked y included) refl
  where
    by : (ms : List ℕ) → marked y included ≡ ms →
        ((s : ℕ) × (is_listed s (marked y included) ≡ true)) ⊎
        ((s : ℕ) × (is_listed s e.stores ≡ true) × (is_listed s (marked y excluded) ≡ true))
    by (s ∷ ss) is = inl (s, ap (is_listed s) is ∙ or_left (s == s) (is_listed s ss) (test_same s))
    by [] is = ⊎_elim (λ out. inr out) (λ same. absurd (never (same_again e.stores) (
        (λ i. same_nodes (sym (take_out (marked y excluded) e.stores ∙ same) i) e.stores)
        ∙ (λ i. same_nodes (with_stores (sym is i) (without_stores (marked y excluded) e.stores)) e.stores) ∙ off)))
        (out_or_same (marked y excluded) e.stores)

-- ---- why a state is refused

-- another action has prepared the object, or who wrote the committed state is this one, or the new state is too old for it
abbrev pub Hinders : Uid → ObjectState → Option ObjectState → Option Uid → Type 0
Hinders u s None h = is_some h ≡ true
Hinders u s (Some held) h = (is_some h ≡ true) ⊎ ((held.writer ≡ u) ⊎ (is_old s held ≡ true))

hinders : (u : Uid) (s : ObjectState) (o : Option ObjectState) (h : Option Uid) (a : Prep) → refusal_of u s o h ≡ Some a → Hinders u s o h
hinders u s None None a is = absurd (cc is)
hinders u s None (Some v) a is = refl
hinders u s (Some held) h a is = by (uid_eq held.writer u) refl (is_old s held) refl h is
  where
    by : (x : Bool) → uid_eq held.writer u ≡ x → (y : Bool) → is_old s held ≡ y → (o : Option Uid) →
        (if x then Some (Already s.uid) else (if y then Some (Old s.uid held.version) else by_holder s o)) ≡ Some a →
        (is_some o ≡ true) ⊎ ((held.writer ≡ u) ⊎ (is_old s held ≡ true))
    by true own y f o e = inr (inl (uid_is held.writer u own))
    by false own true f o e = inr (inr f)
    by false own false f None e = absurd (cc e)
    by false own false f (Some v) e = inl refl

module _ (p : Path) (grants : Grants) (excluded included : Marks) (d : Pair) (n : Naming) where
  -- Naming checked the Confirm anew; an exclude lock that it wants meets this row, of this holder in this mode, and nothing is done.
  pub record IsMet (u : Uid) (m : Mode) : Type 0 where
    pub object : ℕ
    pub store : ℕ
    pub excludes : is_listed store (marked object excluded) ≡ true
    pub row : Row
    pub found : conflict_in object p (at_number object n.objects) ≡ Some row
    pub holder : last_uid row.holder ≡ u
    pub held : row.mode ≡ m
    pub silent : (confirm p grants excluded included d n).outs ≡ []
    pub part : (confirm p grants excluded included d n).part ≡ n

  -- It passed all checks, and an entry that changes is refused for what stands of it: another action has prepared one, or who wrote the one
  -- that stands is the top itself, or the new one is too old for it.
  pub record IsHindered : Type 0 where
    pub untold : is_over p n ≡ false
    pub named : has_all grants n ≡ true
    pub unconfirmed : is_on n.confirmed (top_of p) ≡ false
    pub own : first_of_each (other_grant n) grants ≡ None
    pub locks : first_of_each (refused_exclude p n) (wanted (top_of p) grants excluded d) ≡ None
    pub grant : ℕ × ℕ
    pub there : In grant grants
    pub old : ObjectState
    pub held : held_at (entry (let g = grant in g.0)) d ≡ Some old
    pub other : same_nodes (stores_after (let g = grant in g.0) excluded included (state_entry old)) (state_entry old).stores ≡ false
    pub refused : Hinders (top_of p)
        (entry_state (let g = grant in g.0) (top_of p) old (stores_after (let g = grant in g.0) excluded included (state_entry old)))
        (Some old) (holder_of (entry (let g = grant in g.0)) d)

  abbrev Answer_by : Bool → Bool → Bool → Bool → Option ConfirmedReply → Served Naming ConfirmedReply
  Answer_by over all on pre o = if over || not all then void n
      else (if on || pre then reply (confirms (top_of p) n) confirmed.Yes else confirm_new p grants excluded included d n o)

  -- ---- a state that is refused

  hindered_in : (a : Prep) (ss : List ObjectState) → first_refusal (top_of p) d ss ≡ Some a →
      (s : ObjectState) × In s ss × Hinders (top_of p) s (held_at s.uid d) (holder_of s.uid d)
  hindered_in a [] is = absurd (cc is)
  hindered_in a (s ∷ ss) is = by (refusal_in (top_of p) d s) refl is (λ more. hindered_in a ss more)
    where
      by : (o : Option Prep) → refusal_in (top_of p) d s ≡ o → either o (first_refusal (top_of p) d ss) ≡ Some a →
          (first_refusal (top_of p) d ss ≡ Some a →
          (q : ObjectState) × In q ss × Hinders (top_of p) q (held_at q.uid d) (holder_of q.uid d)) →
          (q : ObjectState) × In q (s ∷ ss) × Hinders (top_of p) q (held_at q.uid d) (holder_of q.uid d)
      by None e h ih = let z = ih h in (z.0, inr z.1, z.2)
      by (Some b) e h ih = (s, inl refl, hinders (top_of p) s (held_at s.uid d) (holder_of s.uid d) b e)

  -- what a new entry is made of
  abbrev IsMadeOf : ℕ → Option ObjectState → ObjectState → Type 0
  IsMadeOf y o st = (old : ObjectState) × (o ≡ Some old)
      × (same_nodes (stores_after y excluded included (state_entry old)) (state_entry old).stores ≡ false)
      × (entry_state y (top_of p) old (stores_after y excluded included (state_entry old)) ≡ st)

  made_of : (y : ℕ) (o : Option ObjectState) (st : ObjectState) → entry_after (top_of p) excluded included y o ≡ Some st → IsMadeOf y o st
  made_of y None st h = absurd (cc h)
  made_of y (Some old) st h = by (same_nodes (stores_after y excluded included (state_entry old)) (state_entry old).stores) refl h
    where
      by : (b : Bool) → same_nodes (stores_after y excluded included (state_entry old)) (state_entry old).stores ≡ b →
          (if b then None else Some (entry_state y (top_of p) old (stores_after y excluded included (state_entry old)))) ≡ Some st →
          IsMadeOf y (Some old) st
      by true is e = absurd (cc e)
      by false is e = let same : entry_state y (top_of p) old (stores_after y excluded included (state_entry old)) ≡ st = some_is e in
          (old, refl, is, same)

  made_in : (f : ℕ → Option ObjectState) (gs : Grants) (st : ObjectState) → In st (filter_map (λ (g : ℕ × ℕ). f g.0) gs) →
      (g : ℕ × ℕ) × In g gs × (f g.0 ≡ Some st)
  made_in f [] st i = absurd i
  made_in f (g ∷ gs) st i = by (f g.0) refl i (λ more. made_in f gs st more)
    where
      by : (o : Option ObjectState) → f g.0 ≡ o → In st (cons_option o (filter_map (λ (k : ℕ × ℕ). f k.0) gs)) →
          (In st (filter_map (λ (k : ℕ × ℕ). f k.0) gs) → (k : ℕ × ℕ) × In k gs × (f k.0 ≡ Some st)) →
          (k : ℕ × ℕ) × In k (g ∷ gs) × (f k.0 ≡ Some st)
      by None e j ih = let z = ih j in (z.0, inr z.1, z.2)
      by (Some q) e (inl same) ih = (g, inl refl, e ∙ ap Some same)
      by (Some q) e (inr more) ih = let z = ih more in (z.0, inr z.1, z.2)

  -- ---- the answer

  -- it met a row, or an entry that changes was refused
  abbrev pub Meets : Uid → Mode → Type 0
  Meets u m = IsMet u m ⊎ IsHindered

  module _ (u : Uid) (m : Mode) where
    abbrev R : ConfirmedReply
    R = confirmed.Conflict u m

    checked_met : (untold : is_over p n ≡ false) → checked p grants excluded included d n ≡ Some R →
        (confirm p grants excluded included d n).outs ≡ [] → (confirm p grants excluded included d n).part ≡ n → IsMet u m
    checked_met untold h silent part = one (first_of_each (other_grant n) grants) refl h
      where
        other_not : (g : ℕ × ℕ) → other_grant n g ≡ Some R → ⊥
        other_not g = by (g.1 == n.inc)
          where
            by : (b : Bool) → (if b then None else Some (confirmed.Changed (what.Inc g.1 n.inc))) ≡ Some R → ⊥
            by true e = cc e
            by false e = cc e

        there_not : (k : ℕ × ℕ) → is_there d k ≡ Some R → ⊥
        there_not k = by (is_listed k.1 (listed_entry k.0 d).stores)
          where
            by : (b : Bool) → (if b then Some (confirmed.Listed k.0 k.1) else None) ≡ Some R → ⊥
            by true e = cc e
            by false e = cc e

        bare_not : (st : ObjectState) → is_bare st ≡ Some R → ⊥
        bare_not st = by (same_nodes (state_entry st).stores [])
          where
            by : (b : Bool) → (if b then Some (confirmed.NoStores st.uid.num) else None) ≡ Some R → ⊥
            by true e = cc e
            by false e = cc e

        row_of : (y : ℕ) → (o : Option Row) → option_map (λ r. confirmed.Conflict (last_uid r.holder) r.mode) o ≡ Some R →
            (r : Row) × (o ≡ Some r) × (last_uid r.holder ≡ u) × (r.mode ≡ m)
        row_of y None e = absurd (cc e)
        row_of y (Some r) e = let same : confirmed.Conflict (last_uid r.holder) r.mode ≡ R = some_is e in
            (r, refl, ap holder_in same, ap mode_in same)

        met : first_of_each (refused_exclude p n) (wanted (top_of p) grants excluded d) ≡ Some R → IsMet u m
        met e =
            let z = first_met (refused_exclude p n) (wanted (top_of p) grants excluded d) R e in
            let r = row_of z.0 (conflict_in z.0 p (at_number z.0 n.objects)) z.2 in
            let w = some_listed (is_wanted z.0 (top_of p) d) (marked z.0 excluded)
            (in_wanted (wants_lock (top_of p) excluded d) z.0 (map (λ (g : ℕ × ℕ). g.0) grants) z.1) in
            record {
              object = z.0;
              store = w.0;
              excludes = w.1;
              row = r.0;
              found = r.1;
              holder = r.2;
              held = r.3;
              silent = silent;
              part = part;
            }

        three : either (first_of_each (is_there d) included) (first_of_each is_bare (entries_after (top_of p) grants excluded included d))
            ≡ Some R
            → ⊥
        three e = by (first_of_each (is_there d) included) refl e
          where
            by : (o : Option ConfirmedReply) → first_of_each (is_there d) included ≡ o →
                either o (first_of_each is_bare (entries_after (top_of p) grants excluded included d)) ≡ Some R → ⊥
            by (Some q) at k = let z = first_met (is_there d) included R (at ∙ k) in there_not z.0 z.2
            by None at k = let z = first_met is_bare (entries_after (top_of p) grants excluded included d) R k in bare_not z.0 z.2

        two : (o : Option ConfirmedReply) → first_of_each (refused_exclude p n) (wanted (top_of p) grants excluded d) ≡ o →
            either o (either (first_of_each (is_there d) included)
            (first_of_each is_bare (entries_after (top_of p) grants excluded included d))) ≡ Some R → IsMet u m
        two (Some q) at e = met (at ∙ e)
        two None at e = absurd (three e)

        one : (o : Option ConfirmedReply) → first_of_each (other_grant n) grants ≡ o →
            either o (either (first_of_each (refused_exclude p n) (wanted (top_of p) grants excluded d))
            (either (first_of_each (is_there d) included) (first_of_each is_bare (entries_after (top_of p) grants excluded included d))))
            ≡ Some R → IsMet u m
        one (Some q) at e = let z = first_met (other_grant n) grants R (at ∙ e) in absurd (other_not z.0 z.2)
        one None at e = two (first_of_each (refused_exclude p n) (wanted (top_of p) grants excluded d)) refl e

    module _ (untold : is_over p n ≡ false) (named : has_all grants n ≡ true) (fresh : is_on n.confirmed (top_of p) ≡ false)
        (free : checked p grants excluded included d n ≡ None) where
      abbrev Behind : Option ConfirmedReply
      Behind = either (first_of_each (is_there d) included) (first_of_each is_bare (entries_after (top_of p) grants excluded included d))

      one : (first_of_each (other_grant n) grants ≡ None) × (either (first_of_each (refused_exclude p n)
          (wanted (top_of p) grants excluded d)) (either (first_of_each (is_there d) included)
          (first_of_each is_bare (entries_after (top_of p) grants excluded included d))) ≡ None)
      one = both_none (first_of_each (other_grant n) grants) (either (first_of_each (refused_exclude p n)
          (wanted (top_of p) grants excluded d)) (either (first_of_each (is_there d) included)
          (first_of_each is_bare (entries_after (top_of p) grants excluded included d)))) free

      refused_first : (a : Prep) → (Ready ≡ a → ⊥) → (o : Option Prep) → unwrap_or o Ready ≡ a → o ≡ Some a
      refused_first a off None e = absurd (off e)
      refused_first a off (Some b) e = ap Some e

      hindered : (a : Prep) → (Ready ≡ a → ⊥) → prepare_answer (top_of p) (entries_after (top_of p) grants excluded included d) d ≡ a →
          IsHindered
      hindered a off is = by (hindered_in a (entries_after (top_of p) grants excluded included d) (refused_first a off
          (first_refusal (top_of p) d (entries_after (top_of p) grants excluded included d)) is))
        where
          by : (s : ObjectState) × In s (entries_after (top_of p) grants excluded included d)
              × Hinders (top_of p) s (held_at s.uid d) (holder_of s.uid d) → IsHindered
          by s =
              let g = made_in (λ y. entry_after (top_of p) excluded included y (held_at (entry y) d)) grants s.0 s.1 in
              let e = made_of g.0.0 (held_at (entry g.0.0) d) s.0 g.2 in
              record {
                untold = untold;
                named = named;
                unconfirmed = fresh;
                own = one.0;
                locks = (both_none (first_of_each (refused_exclude p n) (wanted (top_of p) grants excluded d)) Behind one.1).0;
                grant = g.0;
                there = g.1;
                old = e.0;
                held = e.1;
                other = e.2;
                refused = subst (λ o. Hinders (top_of p) (entry_state g.0.0 (top_of p) e.0 (stores_after g.0.0 excluded included
                    (state_entry e.0))) o (holder_of (entry g.0.0) d)) e.1
                    (subst (λ (q : ObjectState). Hinders (top_of p) q (held_at q.uid d) (holder_of q.uid d)) (sym e.3) s.2);
              }

      answered : (t : Did Naming) (states : List ObjectState) → states ≡ entries_after (top_of p) grants excluded included d → (a : Prep) →
          prepare_answer (top_of p) states d ≡ a → (prepared_by (top_of p) states t a).reply ≡ Some R → IsHindered
      answered t states are Ready is h = absurd (cc h)
      answered t states are (Already w) is h = hindered (Already w) (λ e. cc e) (ap (λ ss. prepare_answer (top_of p) ss d) (sym are) ∙ is)
      answered t states are (Old w v) is h = hindered (Old w v) (λ e. cc e) (ap (λ ss. prepare_answer (top_of p) ss d) (sym are) ∙ is)
      answered t states are (InDoubt w v) is h =
          hindered (InDoubt w v) (λ e. cc e) (ap (λ ss. prepare_answer (top_of p) ss d) (sym are) ∙ is)

      entered_met : (t : Did Naming) (states : List ObjectState) → states ≡ entries_after (top_of p) grants excluded included d →
          (confirm_entries (top_of p) states d t).reply ≡ Some R → IsHindered
      entered_met t [] are h = absurd (cc h)
      entered_met t (s ∷ ss) are h = answered t (s ∷ ss) are (prepare_answer (top_of p) (s ∷ ss) d) refl h

    pub conflicts : (confirm p grants excluded included d n).reply ≡ Some R → Meets u m
    conflicts = by (is_over p n) refl (has_all grants n) refl (is_on n.confirmed (top_of p)) refl (is_prepared (top_of p) d)
        (checked p grants excluded included d n) refl refl
      where
        by : (over : Bool) → is_over p n ≡ over → (all : Bool) → has_all grants n ≡ all → (on : Bool) → is_on n.confirmed (top_of p) ≡ on →
            (pre : Bool) → (o : Option ConfirmedReply) → checked p grants excluded included d n ≡ o →
            confirm p grants excluded included d n ≡ Answer_by over all on pre o →
            (Answer_by over all on pre o).reply ≡ Some R → Meets u m
        by true e0 all e1 on e2 pre o e3 is h = absurd (cc h)
        by false e0 false e1 on e2 pre o e3 is h = absurd (cc h)
        by false e0 true e1 true e2 pre o e3 is h = absurd (cc h)
        by false e0 true e1 false e2 true o e3 is h = absurd (cc h)
        by false e0 true e1 false e2 false (Some q) e3 is h = inl (checked_met e0 (e3 ∙ h)
            (ap (λ (s : Served Naming ConfirmedReply). s.outs) is) (ap (λ (s : Served Naming ConfirmedReply). s.part) is))
        by false e0 true e1 false e2 false None e3 is h = inr (entered_met e0 e1 e2 e3
            (lock_all (wanted (top_of p) grants excluded d) p n) (entries_after (top_of p) grants excluded included d) refl h)
