-- A store's work in the machine's terms.
use Rattle.arj_law_parts.proofs.Words
use Words.{◌≡◌, ◌⊎◌, ℕ, ◌<◌, ◌==◌, ◌&&◌, ◌||◌, nat_lt, not, List, [], ◌∷◌, Bool, true, false, cond, Option, Some, None, refl, sym, ◌∙◌, ap}
use Words.{subst, inl, inr, ⊎_elim, arith, is_some, option_map, if◌then◌else◌, find, unwrap_or, list_any, and_parts, or_parts, nat_tests}
use Words.{bytes_eq-Decides, uid_is, uid_same, Uid, ObjectState, uid_eq, object, class_code_of, Pair, Prep, Ready, Already, Old, held_at}
use Words.{holder_of, is_prepared, names_object, prepare_answer, first_refusal, refusal_in, refusal_of, by_holder, either, is_old, state_eq}
use Words.{pair_prepared, pair_committed, pair_aborted, pair_in_part, at_uid, put_uid, uid_number}
use Rattle.arj_base.specs.State.{head_of}
use Rattle.arj_law_disk_view.proofs.Terms
use Terms.{bytes_eq, Bare, World, run, after, State, Packed, Hold, Below, target, state_for, In, put, put_same, put_other, bool_cases}
use Terms.{never, never_some, some_is, Among, IsOf, SeesPair, HasNone, packed, IsPlanned, SeesStore, StoreGoes, ClaimsPrepare, ClaimsCommit}
use Terms.{ClaimsAbort}
use Terms.mail
use Rattle.arj_law_disk.specs.machine.{Effects.Keep, Effects.Move, Effects.Finish, Effects.Drop, State.hold}
use Rattle.arj_law_disk_view.proofs.view
use view.PairSteps.{of_cases, prepares, prepares_none, aborts_own, aborts_other, commits_own, commits_other, parts_own, parts_other}
use view.PairSteps.{other_states, whose}
use Rattle.arj_law_disk_view.specs.view.Stores.{StoresPrepare, StoresAnswer, StoresCommit, StoresStopInPart, StoresAbort, StoresLoad}
use Rattle.arj_law_disk_view.specs.view.Stores.{OtherStoresStay}
use Rattle.arj_law_disk_view.proofs.view.Keys as keys

-- an action is prepared or not
pub prepared_is : (a : Uid) (d : Pair) → is_prepared a d ≡ true → (states : List ObjectState) × (at_uid a d.pend ≡ Some states)
prepared_is a d is = by (at_uid a d.pend) refl is
  where
    by : (o : Option (List ObjectState)) → at_uid a d.pend ≡ o → is_some o ≡ true →
        (states : List ObjectState) × (at_uid a d.pend ≡ Some states)
    by None e h = absurd (cc h)
    by (Some states) e h = (states, e)

pub unprepared : (a : Uid) (d : Pair) → is_prepared a d ≡ false → at_uid a d.pend ≡ None
unprepared a d is = by (at_uid a d.pend) refl is
  where
    by : (o : Option (List ObjectState)) → at_uid a d.pend ≡ o → is_some o ≡ false → at_uid a d.pend ≡ None
    by None e h = e
    by (Some states) e h = absurd (cc h)

-- ---- nobody has prepared the object

-- a list with a state of the object names it
names_it : (u : Uid) (states : List ObjectState) (s : ObjectState) → IsOf u states s → names_object u states ≡ true
names_it u [] s of = absurd of.0
names_it u (t ∷ ts) s of = ⊎_elim (λ same. ap (λ b. b || list_any (λ (x : ObjectState). uid_eq x.uid u) ts) (ap (λ (x : ObjectState).
    uid_eq x.uid u) same ∙ ap (λ k. uid_eq k u) of.1 ∙ uid_same u)) (λ more. by (uid_eq t.uid u) (names_it u ts s (more, of.1))) of.0
  where
    by : (b : Bool) → list_any (λ (x : ObjectState). uid_eq x.uid u) ts ≡ true →
        (b || list_any (λ (x : ObjectState). uid_eq x.uid u) ts) ≡ true
    by true h = refl
    by false h = h

-- who is prepared for it is found
finds_one : (u a : Uid) (states : List ObjectState) (m : List (Uid × List ObjectState)) → at_uid a m ≡ Some states →
    names_object u states ≡ true
    → find (λ (p : Uid × List ObjectState). names_object u p.1) m ≡ None → ⊥
finds_one u a states [] is names none = absurd (cc is)
finds_one u a states (e ∷ es) is names none =
    by (names_object u e.1) refl none (keys.found_cases a e states es is) (finds_one u a states es)
  where
    by : (b : Bool) → names_object u e.1 ≡ b → cond b (Some e) (find (λ (p : Uid × List ObjectState). names_object u p.1) es) ≡ None →
        (e.1 ≡ states) ⊎ (at_uid a es ≡ Some states)
        → (at_uid a es ≡ Some states → names_object u states ≡ true →
        find (λ (p : Uid × List ObjectState). names_object u p.1) es ≡ None → ⊥) → ⊥
    by true h found at ih = absurd (cc found)
    by false h found (inl same) ih = never (ap (names_object u) same ∙ names) h
    by false h found (inr more) ih = ih more names found

no_holder : (u : Uid) (d : Pair) → holder_of u d ≡ None → find (λ (p : Uid × List ObjectState). names_object u p.1) d.pend ≡ None
no_holder u d is = by (find (λ (p : Uid × List ObjectState). names_object u p.1) d.pend) is
  where
    by : (o : Option (Uid × List ObjectState)) → option_map (λ (p : Uid × List ObjectState). p.0) o ≡ None → o ≡ None
    by None h = refl
    by (Some p) h = absurd (cc h)

pub place_free : (u : Uid) (d : Pair) (pack : ObjectState → Packed) (held : Option Packed) (pend : Option Hold) →
    SeesPair pack u d held pend → holder_of u d ≡ None → pend ≡ None
place_free u d pack held pend sees free = by pend refl
  where
    by : (o : Option Hold) → pend ≡ o → pend ≡ None
    by None is = is
    by (Some h) is = let f = sees.holder h is in
        absurd (finds_one u f.action f.states d.pend f.prepared (names_it u f.states f.state f.of) (no_holder u d free))

-- ---- what a store is ready for

-- no state that is sent has a refusal
pub no_refusal : (a : Uid) (d : Pair) (states : List ObjectState) → prepare_answer a states d ≡ Ready → (s : ObjectState) → Among s states →
    refusal_in a d s ≡ None
no_refusal a d [] ready s among = absurd among
no_refusal a d (t ∷ ts) ready s among = by (refusal_in a d t) refl (refused_by t) ready among (no_refusal a d ts)
  where
    held_no : (t : ObjectState) (o : Option Uid) → by_holder t o ≡ Some Ready → ⊥
    held_no t None h = cc h
    held_no t (Some holder) h = cc h

    old_no : (t : ObjectState) (v : ℕ) (b : Bool) (o : Option Uid) → (if b then Some (Old t.uid v) else by_holder t o) ≡ Some Ready → ⊥
    old_no t v true o h = cc h
    old_no t v false o h = held_no t o h

    own_no : (t : ObjectState) (held : ObjectState) (b : Bool) (o : Option Uid) →
        (if b then Some (Already t.uid) else (if is_old t held then Some (Old t.uid held.version) else by_holder t o)) ≡ Some Ready → ⊥
    own_no t held true o h = cc h
    own_no t held false o h = old_no t held.version (is_old t held) o h

    refused_by : (t : ObjectState) → refusal_in a d t ≡ Some Ready → ⊥
    refused_by t = from (held_at t.uid d) (holder_of t.uid d)
      where
        from : (o : Option ObjectState) (h : Option Uid) → refusal_of a t o h ≡ Some Ready → ⊥
        from None h is = held_no t h is
        from (Some held) h is = own_no t held (uid_eq held.writer a) h is

    by : (o : Option Prep) → refusal_in a d t ≡ o → (refusal_in a d t ≡ Some Ready → ⊥) →
        unwrap_or (either o (first_refusal a d ts)) Ready ≡ Ready → (t ≡ s) ⊎ Among s ts
        → (prepare_answer a ts d ≡ Ready → (r : ObjectState) → Among r ts → refusal_in a d r ≡ None) → refusal_in a d s ≡ None
    by (Some p) is unready ready among ih = let e : p ≡ Ready = ready in absurd (unready (is ∙ ap Some e))
    by None is unready ready (inl same) ih = ap (refusal_in a d) (sym same) ∙ is
    by None is unready ready (inr more) ih = ih ready s more

-- a state without a refusal is of a free object, and not below what is held
pub free_state : (a : Uid) (d : Pair) (s : ObjectState) → refusal_in a d s ≡ None →
    (holder_of s.uid d ≡ None) × ((held : ObjectState) → held_at s.uid d ≡ Some held → is_old s held ≡ false)
free_state a d s none = by (held_at s.uid d) refl (holder_of s.uid d) refl none
  where
    holds : (o : Option Uid) → by_holder s o ≡ None → o ≡ None
    holds None h = refl
    holds (Some holder) h = absurd (cc h)

    old : (held : ObjectState) (b : Bool) (o : Option Uid) → is_old s held ≡ b →
        (if b then Some (Old s.uid held.version) else by_holder s o) ≡ None → (o ≡ None) × (is_old s held ≡ false)
    old held true o is h = absurd (cc h)
    old held false o is h = (holds o h, is)

    own : (held : ObjectState) (b : Bool) (o : Option Uid) → (if b then Some (Already s.uid) else
        (if is_old s held then Some (Old s.uid held.version) else by_holder s o)) ≡ None → (o ≡ None) × (is_old s held ≡ false)
    own held true o h = absurd (cc h)
    own held false o h = old held (is_old s held) o refl h

    by : (o : Option ObjectState) → held_at s.uid d ≡ o → (h : Option Uid) → holder_of s.uid d ≡ h → refusal_of a s o h ≡ None
        → (holder_of s.uid d ≡ None) × ((held : ObjectState) → held_at s.uid d ≡ Some held → is_old s held ≡ false)
    by None e h f is = (f ∙ holds h is, λ held g. absurd (never_some g e))
    by (Some other) e h f is = let r = own other (uid_eq other.writer a) h is in
        (f ∙ r.0, λ held g. subst (λ k. is_old s k ≡ false) (some_is e g) r.1)

-- a state that isn't old against what is held is above it, or the same
above_held : (s held : ObjectState) → is_old s held ≡ false → Below (packed held) (packed s)
above_held s held new =
    let parts = or_parts (nat_lt s.version held.version) ((s.version == held.version) && not (state_eq s held)) new in
    by (s.version == held.version) refl (state_eq s held) refl parts.0 parts.1
  where
    higher : (v w : ℕ) → nat_lt v w ≡ false → (v == w) ≡ false → w < v
    higher v w a b = grind (arith, nat_tests)

    number_is : (v w : ℕ) → (v == w) ≡ true → v ≡ w
    number_is v w e = grind (arith, nat_tests)

    same_state : state_eq s held ≡ true → packed held ≡ packed s
    same_state e =
        let formats = head_of s.format == head_of held.format in
        let classes = class_code_of s.class == class_code_of held.class in
        let behind = uid_eq s.writer held.writer && bytes_eq s.payload held.payload in
        let f = and_parts (uid_eq s.uid held.uid) (formats && (classes && ((s.version == held.version) && behind))) e in
        let p = and_parts formats (classes && ((s.version == held.version) && behind)) f.1 in
        let q = and_parts classes ((s.version == held.version) && behind) p.1 in
        let r = and_parts (s.version == held.version) behind q.1 in
        let t = and_parts (uid_eq s.writer held.writer) (bytes_eq s.payload held.payload) r.1 in
        let format : head_of held.format ≡ head_of s.format =
        sym (number_is (head_of s.format) (head_of held.format) p.0) in
        let class : class_code_of held.class ≡ class_code_of s.class =
        sym (number_is (class_code_of s.class) (class_code_of held.class) q.0) in
        let versions : held.version ≡ s.version = sym (number_is s.version held.version r.0) in
        let writers : held.writer ≡ s.writer = sym (uid_is s.writer held.writer t.0) in
        let payloads : held.payload ≡ s.payload = sym ((bytes_eq-Decides s.payload held.payload).0 t.1) in
        λ i. record { version = versions i; writer = uid_number (writers i); content = format i ∷ class i ∷ payloads i }

    by : (b : Bool) → (s.version == held.version) ≡ b → (c : Bool) → state_eq s held ≡ c → nat_lt s.version held.version ≡ false →
        (b && not c) ≡ false → Below (packed held) (packed s)
    by false e c f low same = inl (higher s.version held.version low e)
    by true e true f low same = inr (same_state f)
    by true e false f low same = absurd (cc same)

-- ---- the machine's effects

module _ (x s : ℕ) (d : Pair) (W : World) (sees : SeesStore x s d W.disk) where
  -- nothing is done
  stays : (c : Pair) → SeesStore x s c W.disk → StoreGoes x s c W
  stays c seen = record {
    effects = [];
    allowed = tt;
    plain = tt;
    there = seen;
    only = record { rest = refl; sent = refl; held = λ r e. refl; pend = λ r e. refl };
  }

  -- what is prepared besides is the plan's too
  planned_put : (a : Uid) (states : List ObjectState) → IsPlanned x W.disk a s states → (b : Uid) (ss : List ObjectState) →
      at_uid b (put_uid a states d.pend) ≡ Some ss → IsPlanned x W.disk b s ss
  planned_put a states plan b ss is = ⊎_elim (λ same. subst (λ k. IsPlanned x W.disk k s ss) (sym same.0)
      (subst (λ q. IsPlanned x W.disk a s q) same.1 plan)) (λ other. sees.planned b ss other.1) (keys.put_cases b a states ss d.pend is)

  pub prepare : (a : Uid) (states : List ObjectState) → ClaimsPrepare x W a s states → is_prepared a d ≡ false →
      prepare_answer a states d ≡ Ready → StoreGoes x s (pair_prepared a states d) W
  prepare a states claims new ready = by (of_cases (object x) states)
    where
      t : ℕ
      t = uid_number a

      unsent : at_uid a d.pend ≡ None
      unsent = unprepared a d new

      by : ((st : ObjectState) × IsOf (object x) states st) ⊎ HasNone (object x) states → StoreGoes x s (pair_prepared a states d) W
      by (inr none) = stays (pair_prepared a states d) (record {
        pair = prepares_none packed (object x) d (W.disk.held s) (W.disk.pend s) sees.pair a states unsent none;
        planned = planned_put a states claims.planned;
      })
      by (inl f) =
          let st : ObjectState = f.0 in
          let named = claims.planned.named st f.1 in
          let free = free_state a d st (no_refusal a d states ready st f.1.0) in
          let none : W.disk.pend s ≡ None = place_free (object x) d packed (W.disk.held s) (W.disk.pend s) sees.pair
          (ap (λ k. holder_of k d) (sym f.1.1) ∙ free.0) in
          let pair = prepares packed (object x) d (W.disk.held s) (W.disk.pend s) sees.pair a states (state_for (W.disk.plan t)) unsent none
          st f.1 (λ q of. (claims.planned.named q of).1) in
          record {
            effects = Keep t s ∷ [];
            plain = (refl, tt);
            allowed = (record { asked = claims.asked named.0; free = none; below = λ g held. below st f.1.1 free.1 named.1 g held }, tt);
            there = record {
              pair = subst (λ o. SeesPair packed (object x) (pair_prepared a states d) (W.disk.held s) o)
                  (sym (put_same s (Some (hold W.disk t)) W.disk.pend)) pair;
              planned = λ b ss is. let p = planned_put a states claims.planned b ss is in
                  record { begun = p.begun; named = p.named; there = p.there };
            };
            only =
                record { rest = refl; sent = refl; held = λ r e. refl; pend = λ r e. put_other s (Some (hold W.disk t)) W.disk.pend r e };
          }
        where
          below : (st : ObjectState) → st.uid ≡ object x → ((held : ObjectState) → held_at st.uid d ≡ Some held → is_old st held ≡ false) →
              packed st ≡ state_for (W.disk.plan t) → (g : Packed) → W.disk.held s ≡ Some g → Below g (state_for (W.disk.plan t))
          below st of new is g held = at (held_at (object x) d) refl
            where
              at : (o : Option ObjectState) → held_at (object x) d ≡ o → Below g (state_for (W.disk.plan t))
              at None e = absurd (never_some held (sym sees.pair.held_is ∙ ap (λ o. option_map packed o) e))
              at (Some old) e =
                  let same : packed old ≡ g = some_is (ap (λ o. option_map packed o) e) (sees.pair.held_is ∙ held) in
                  subst (λ p. Below g p) is
                  (subst (λ p. Below p (packed st)) same (above_held st old (new old (ap (λ k. held_at k d) of ∙ e))))

  pub again : (a : Uid) (states : List ObjectState) → at_uid a d.pend ≡ Some states → target (W.disk.plan (uid_number a)) s ≡ true →
      W.disk.pend s ≡ Some (hold W.disk (uid_number a))
  again a states is on =
      let plan = sees.planned a states is in
      let st = plan.there on in
      sees.pair.held_by a states st.0 is st.1 ∙ (λ i. Some (record { top = uid_number a; new = (plan.named st.0 st.1).1 i }))

  -- what is left prepared is the plan's
  planned_left : (a : Uid) (now : Pair) (V : State) → now.pend ≡ keys.taken_out a d.pend → V.begun ≡ W.disk.begun → V.plan ≡ W.disk.plan →
      (b : Uid) (ss : List ObjectState) → at_uid b now.pend ≡ Some ss → IsPlanned x V b s ss
  planned_left a now V pend begun plans b ss is =
      let f = keys.without_cases b a ss d.pend sees.pair.sorted (ap (λ m. at_uid b m) (sym pend) ∙ is) in
      planned_same V begun plans b ss (sees.planned b ss f.1)
    where
      planned_same : (V : State) → V.begun ≡ W.disk.begun → V.plan ≡ W.disk.plan → (b : Uid) (ss : List ObjectState) →
          IsPlanned x W.disk b s ss → IsPlanned x V b s ss
      planned_same V begun plans b ss p = record {
        begun = ap (λ f. f (uid_number b)) begun ∙ p.begun;
        named = subst (λ f. (st : ObjectState) → IsOf (object x) ss st →
            (target (f (uid_number b)) s ≡ true) × (packed st ≡ state_for (f (uid_number b)))) (sym plans) p.named;
        there = subst (λ f. target (f (uid_number b)) s ≡ true → (st : ObjectState) × IsOf (object x) ss st) (sym plans) p.there;
      }

  -- what the machine's holder prepared was sent by its plan
  own_target : (a : Uid) (h : Hold) → W.disk.pend s ≡ Some h → h.top ≡ uid_number a → target (W.disk.plan (uid_number a)) s ≡ true
  own_target a h there own =
      let f = sees.pair.holder h there in
      let p = sees.planned f.action f.states f.prepared in
      subst (λ k. target (W.disk.plan k) s ≡ true) (ap (λ (g : Hold). g.top) f.is ∙ own) (p.named f.state f.of).0

  pub abort : (a : Uid) → Bare W.disk → ClaimsAbort W a s → is_prepared a d ≡ true → StoreGoes x s (pair_aborted a d) W
  abort a bare claims is = by (whose packed (object x) d (W.disk.held s) (W.disk.pend s) sees.pair a) claims
    where
      by : ((h : Hold) × (W.disk.pend s ≡ Some h) × (h.top ≡ uid_number a))
          ⊎ ((h : Hold) → W.disk.pend s ≡ Some h → h.top ≡ uid_number a → ⊥) → ClaimsAbort W a s → StoreGoes x s (pair_aborted a d) W
      by (inr other) claims = stays (pair_aborted a d) (record {
        pair = aborts_other packed (object x) d (W.disk.held s) (W.disk.pend s) sees.pair a other;
        planned = planned_left a (pair_aborted a d) W.disk refl refl refl;
      })
      by (inl f) (inr untouched) = absurd (never (own_target a f.0 f.1 f.2) (bare.untouched (uid_number a) untouched.0 s))
      by (inl f) (inl told) = record {
        effects = Drop s f.0 ∷ [];
        plain = (refl, tt);
        allowed = ((f.1, subst (λ k. In (mail.ToldAbort k s) W.sent) (sym f.2) told), tt);
        there = record {
          pair = subst (λ o. SeesPair packed (object x) (pair_aborted a d) (W.disk.held s) o) (sym (put_same s None W.disk.pend))
              (aborts_own packed (object x) d (W.disk.held s) (W.disk.pend s) sees.pair a f.0 f.1 f.2);
          planned = planned_left a (pair_aborted a d) (after W (Drop s f.0)).disk refl refl refl;
        };
        only = record { rest = refl; sent = refl; held = λ r e. refl; pend = λ r e. put_other s None W.disk.pend r e };
      }

  pub commit : (a : Uid) → Bare W.disk → ClaimsCommit W a s → is_prepared a d ≡ true → StoreGoes x s (pair_committed a d) W
  commit a bare claims is = by (whose packed (object x) d (W.disk.held s) (W.disk.pend s) sees.pair a) claims
    where
      q : (states : List ObjectState) × (at_uid a d.pend ≡ Some states)
      q = prepared_is a d is

      by : ((h : Hold) × (W.disk.pend s ≡ Some h) × (h.top ≡ uid_number a))
          ⊎ ((h : Hold) → W.disk.pend s ≡ Some h → h.top ≡ uid_number a → ⊥) → ClaimsCommit W a s → StoreGoes x s (pair_committed a d) W
      by (inr other) claims = stays (pair_committed a d) (record {
        pair = commits_other packed (object x) d (W.disk.held s) (W.disk.pend s) sees.pair a q.0 q.1 other;
        planned = planned_left a (pair_committed a d) W.disk refl refl refl;
      })
      by (inl f) (inr untouched) = absurd (never (own_target a f.0 f.1 f.2) (bare.untouched (uid_number a) untouched s))
      by (inl f) (inl told) =
          let h : Hold = f.0 in
          let mine : In (mail.ToldCommit h.top s) W.sent = subst (λ k. In (mail.ToldCommit k s) W.sent) (sym f.2) told in
          record {
            effects = Move s h ∷ Finish s h ∷ [];
            plain = (refl, (refl, tt));
            allowed = ((f.1, mine), ((f.1, mine, put_same s (Some h.new) W.disk.held), tt));
            there = record {
              pair = subst (λ o. SeesPair packed (object x) (pair_committed a d) o (put s None W.disk.pend s))
                  (sym (put_same s (Some h.new) W.disk.held))
                  (subst (λ o. SeesPair packed (object x) (pair_committed a d) (Some h.new) o) (sym (put_same s None W.disk.pend))
                  (commits_own packed (object x) d (W.disk.held s) (W.disk.pend s) sees.pair a q.0 h q.1 f.1 f.2));
              planned = planned_left a (pair_committed a d) (run W (Move s h ∷ Finish s h ∷ [])).disk refl refl refl;
            };
            only = record {
              rest = refl;
              sent = refl;
              held = λ r e. put_other s (Some h.new) W.disk.held r e;
              pend = λ r e. put_other s None W.disk.pend r e;
            };
          }

  pub stop_in_part : (a : Uid) (which : Uid → Bool) → Bare W.disk → ClaimsCommit W a s → is_prepared a d ≡ true →
      StoreGoes x s (pair_in_part which a d) W
  stop_in_part a which bare claims is =
      by (whose packed (object x) d (W.disk.held s) (W.disk.pend s) sees.pair a) claims (bool_cases (which (object x)))
    where
      q : (states : List ObjectState) × (at_uid a d.pend ≡ Some states)
      q = prepared_is a d is

      -- nothing of the object is moved
      unmoved : HasNone (object x) q.0 ⊎ (which (object x) ≡ false) → StoreGoes x s (pair_in_part which a d) W
      unmoved none = stays (pair_in_part which a d) (record {
        pair = parts_other packed (object x) d (W.disk.held s) (W.disk.pend s) sees.pair which a q.0 q.1 none;
        planned = sees.planned;
      })

      by : ((h : Hold) × (W.disk.pend s ≡ Some h) × (h.top ≡ uid_number a)) ⊎ ((h : Hold) → W.disk.pend s ≡ Some h → h.top ≡ uid_number a →
          ⊥) → ClaimsCommit W a s → (which (object x) ≡ true) ⊎ (which (object x) ≡ false)
          → StoreGoes x s (pair_in_part which a d) W
      by (inr other) claims passes =
          unmoved (inl (other_states packed (object x) d (W.disk.held s) (W.disk.pend s) sees.pair a q.0 q.1 other))
      by (inl f) claims (inr stays_here) = unmoved (inr stays_here)
      by (inl f) (inr untouched) (inl passes) = absurd (never (own_target a f.0 f.1 f.2) (bare.untouched (uid_number a) untouched s))
      by (inl f) (inl told) (inl passes) =
          let h : Hold = f.0 in
          record {
            effects = Move s h ∷ [];
            plain = (refl, tt);
            allowed = ((f.1, subst (λ k. In (mail.ToldCommit k s) W.sent) (sym f.2) told), tt);
            there = record {
              pair = subst (λ o. SeesPair packed (object x) (pair_in_part which a d) o (W.disk.pend s)) (sym (put_same s (Some h.new)
                  W.disk.held)) (parts_own packed (object x) d (W.disk.held s) (W.disk.pend s) sees.pair which a q.0 h q.1 f.1 f.2 passes);
              planned = λ b ss at. let p = sees.planned b ss at in record { begun = p.begun; named = p.named; there = p.there };
            };
            only = record { rest = refl; sent = refl; held = λ r e. put_other s (Some h.new) W.disk.held r e; pend = λ r e. refl };
          }

-- ---- as laws

pub stores_prepare : StoresPrepare
stores_prepare x s d W a states sees claims new ready = prepare x s d W sees a states claims new ready

pub stores_answer : StoresAnswer
stores_answer x s d W a states sees is on = again x s d W sees a states is on

pub stores_commit : StoresCommit
stores_commit x s d W a bare sees claims is = commit x s d W sees a bare claims is

pub stores_stop_in_part : StoresStopInPart
stores_stop_in_part x s d W a which bare sees claims is = stop_in_part x s d W sees a which bare claims is

pub stores_abort : StoresAbort
stores_abort x s d W a bare sees claims is = abort x s d W sees a bare claims is

pub stores_load : StoresLoad
stores_load x s d S st sees free held =
    (place_free (object x) d packed (S.held s) (S.pend s) sees.pair free, sym sees.pair.held_is ∙ ap (λ o. option_map packed o) held)

pub other_stores_stay : OtherStoresStay
other_stores_stay x s r d W V only other sees = record {
  pair = subst (λ o. SeesPair packed (object x) d o (V.disk.pend r)) (sym (only.held r other))
      (subst (λ o. SeesPair packed (object x) d (W.disk.held r) o) (sym (only.pend r other)) sees.pair);
  planned = λ a ss is. let p = sees.planned a ss is in record {
    begun = ap (λ (S : State). S.begun (uid_number a)) only.rest ∙ p.begun;
    named = subst (λ (S : State). (st : ObjectState) → IsOf (object x) ss st →
        (target (S.plan (uid_number a)) r ≡ true) × (packed st ≡ state_for (S.plan (uid_number a)))) (sym only.rest) p.named;
    there =
        subst (λ (S : State). target (S.plan (uid_number a)) r ≡ true → (st : ObjectState) × IsOf (object x) ss st) (sym only.rest) p.there;
  };
}
