-- What stores hold of an object is what it was behind the committed tops up to some place in serial order.
use Rattle.arj_law_parts.proofs.Words
use Words.{◌≡◌, ◌∙◌, ◌⊎◌, ◌<◌, ◌+◌, ◌&&◌, ℕ, Bool, true, false, cond, filter, List, [], ◌∷◌, refl, sym, subst, ap, inl, inr, ⊎_elim, arith}
use Words.{Option, Some, None, is_some, unwrap_or, AllByRecursion, In, in_from, Header, ObjectState, Uid, object, Node, World, see}
use Words.{uid_number}
use Words.{nobody, state_bytes, Line, Start}
use Rattle.arj_law_serial.proofs.Terms
use Terms.{HeaderFits, Top, tops, committed_calls, first_values, run, serial_calls, writes_on, new_book, AreRight, Chain, Core, counts_of}
use Terms.{Done}
use Terms.{KnownIn, Packed, last_in, packed, AreDecided, AreDecisions, AreNewestFirst, content_of, marked, Keeping, object_line, kept_right}
use Terms.words
use Terms.disk
use Rattle.arj_law_parts.specs.moves.Keeps.{Holds}
use Rattle.arj_law_serial.proofs.joint.{Clean.AreJoined, Clean.decided, Clean.decides_in, Clean.held_in, Clean.lock_tied, Clean.ordered_of}
use Rattle.arj_law_serial.proofs.joint.NamedTops.{disk_of}
use Rattle.arj_law_serial.proofs.order.{Contents.one_state, Ties.Ties, Ties.ties_of}
use Rattle.arj_law_serial.specs.joint.Ordered.{IsOrderedSo}
use Rattle.arj_model.specs.Calls.{Call}
use Rattle.arj_past.specs.Past.{is_up_to, state_to}
use Rattle.arj_protocol.specs.Effect.{held_at}
use Rattle.arj_protocol.specs.Tree.{at_place}
use Rattle.arj_start.specs.Start.{fresh, format_at, unwritten}
use Rattle.arj_law_images.proofs.States.{past_state}
use Rattle.arj_model.specs.Last.{state_after}

-- ---- those that count

-- who doesn't count wrote nothing
abbrev Plain : List Done → Type 0
Plain ds = (d : Done) → words.In d ds → d.counts ≡ false → d.plan.writes ≡ None

last_counted : (first : Packed) (ds : List Done) → Plain ds → last_in first ds ≡ last_in first (filter counts_of ds)
last_counted first [] plain = refl
last_counted first (d ∷ ds) plain = by d.counts refl (last_counted first ds (λ e i. plain e (inr i)))
  where
    by : (b : Bool) → d.counts ≡ b → last_in first ds ≡ last_in first (filter counts_of ds) →
        unwrap_or d.plan.writes (last_in first ds) ≡ last_in first (cond b (d ∷ filter counts_of ds) (filter counts_of ds))
    by true is ih = ap (unwrap_or d.plan.writes) ih
    by false is ih = ap (λ o. unwrap_or o (last_in first ds)) (plain d (inl refl) is) ∙ ih

chain_counted : (first : Packed) (ds : List Done) → Plain ds → Chain first ds → Chain first (filter counts_of ds)
chain_counted first [] plain chain = tt
chain_counted first (d ∷ ds) plain chain = by d.counts (chain_counted first ds (λ e i. plain e (inr i)) chain.1)
  where
    same : last_in first ds ≡ last_in first (filter counts_of ds)
    same = last_counted first ds (λ e i. plain e (inr i))

    by : (b : Bool) → Chain first (filter counts_of ds) → Chain first (cond b (d ∷ filter counts_of ds) (filter counts_of ds))
    by true rest = (λ g wrote. chain.0 g wrote ∙ ap (λ (p : Packed). p.version + 1) same, rest)
    by false rest = rest

known_counted : (first : Packed) (ds : List Done) → Plain ds → (g : Packed) → KnownIn first ds g → KnownIn first (filter counts_of ds) g
known_counted first [] plain g known = known
known_counted first (d ∷ ds) plain g known = by d.counts refl known (known_counted first ds (λ e i. plain e (inr i)) g)
  where
    by : (b : Bool) → d.counts ≡ b → KnownIn first (d ∷ ds) g → (KnownIn first ds g → KnownIn first (filter counts_of ds) g) →
        KnownIn first (cond b (d ∷ filter counts_of ds) (filter counts_of ds)) g
    by true is (inl wrote) ih = inl wrote
    by true is (inr old) ih = inr (ih old)
    by false is (inl wrote) ih = let no_way : ◌≡◌ {A = Option Packed} None (Some g) = sym (plain d (inl refl) is) ∙ wrote in absurd (cc no_way)
    by false is (inr old) ih = ih old

-- a place behind all of these
behind_all : (ts : List Top) → AreNewestFirst ts → (n : ℕ) × AllByRecursion (λ (u : Top). u.at < n) ts
behind_all [] falls = (0, tt)
behind_all (t ∷ ts) falls = (t.at + 1, (omega arith, each ts falls.0))
  where
    each : (us : List Top) → AllByRecursion (λ (u : Top). u.at < t.at) us → AllByRecursion (λ (u : Top). u.at < t.at + 1) us
    each [] all = tt
    each (u ∷ us) all = (let l = all.0 in omega (arith, l), each us all.1)

-- ---- before all tops

none_to : (lines : List Line) (cs : List Call) → filter (is_up_to lines []) cs ≡ []
none_to lines [] = refl
none_to lines (c ∷ cs) = none_to lines cs

first_is : (header : Header) (lines : List Line) (x : ℕ) →
    packed (state_to header lines [] x) ≡ marked unwritten (content_of (format_at header.format 0) (first_values header x))
first_is header lines x = λ i. by (none_to lines (serial_calls lines) i)
  where
    by : List Call → Packed
    by cs = packed (state_after header.format unwritten x (run (first_values header) cs x) (filter (writes_on x) cs))

-- ---- worlds

module _ (hd : Header) (w : World) (keeping : Keeping hd w) (form : HeaderFits hd) (joined : AreJoined hd w) (begins : w.start ≡ fresh)
    (x : ℕ) (there : is_some (object_line hd x) ≡ true) where
  abbrev o : Holds hd (IsOrderedSo hd x) w
  o = ordered_of hd w x (held_in hd w keeping joined x there)

  abbrev S : disk.State
  S = disk_of o.holds

  right : AreRight new_book w.lines
  right = kept_right hd w keeping

  ties : Ties (first_values hd) w.lines
  ties = ties_of (first_values hd) w.lines (let t = lock_tied hd w keeping joined in t.called)

  its : AreDecided hd w.lines x S.tops
  its = decided hd w keeping form (lock_tied hd w keeping joined) (held_in hd w keeping joined) (decides_in hd w keeping joined) x there

  core : Core S
  core = let h = o.holds in let b = h.begun in let j = b.journalled in let v = j.sees.whole in v.core

  first_of : S.first ≡ marked unwritten (content_of (format_at hd.format 0) (first_values hd x))
  first_of = (let h = o.holds in let b = h.begun in let g = b.begins in g.state)
      ∙ ap (λ (st : Start). marked (st.marks.states x) (content_of (format_at hd.format (let m = st.marks.states x in m.version))
      (first_values hd x))) begins

  -- a state that a store holds, as the machine has it
  known : (g : Packed) (s : ℕ) → S.held s ≡ Some g → (place : List ℕ) × (packed (state_to hd w.lines place x) ≡ g)
  known g s held = ⊎_elim (λ now. of_tops now) (λ old. absurd (none_older old)) (core.history.held s g held)
    where
      none_older : words.In g S.past → ⊥
      none_older i =
          let p = core.history.past in
          let less = p.below g i in
          let zero : S.first.version ≡ 0 = ap (λ (p : Packed). p.version) first_of in
          absurd (omega (arith, less, zero))

      falls : AreNewestFirst its.those
      falls = its.called

      bound : (n : ℕ) × AllByRecursion (λ (u : Top). u.at < n) its.those
      bound = behind_all its.those falls

      of_tops : KnownIn S.first S.tops g → (place : List ℕ) × (packed (state_to hd w.lines place x) ≡ g)
      of_tops now = ⊎_elim (λ (is : S.first ≡ g). ([], first_is hd w.lines x ∙ sym first_of ∙ is)) (λ found. found)
          (past_state hd w.lines right ties x S.first (ap (λ (p : Packed). p.version) first_of) (filter counts_of S.tops) its.those bound.0
          its.each falls bound.1 written (chain_counted S.first S.tops plain core.history.chain) g
          (known_counted S.first S.tops plain g now))
        where
          plain : Plain S.tops
          plain = core.journal.plain

          written : (e : Call) → In e (filter (writes_on x) (committed_calls w.lines)) →
              (u : Top) × In u (tops w.lines) × (e.top ≡ u.id) × (u.at < bound.0 → In u its.those)
          written e i =
              let f = Words.in_filter (writes_on x) e (committed_calls w.lines) i in
              let t = its.all e (Words.in_to e (committed_calls w.lines) f.0) f.1 in
              (t.0, one t.0 (in_from t.0 its.those t.1), t.2, λ less. in_from t.0 its.those t.1)
            where
              one : (u : Top) → In u its.those → In u (tops w.lines)
              one u j = those_listed (filter counts_of S.tops) its.those its.each u j
                where
                  those_listed : (ds : List Done) (ts : List Top) → AreDecisions (first_values hd) w.lines x ds ts → (t : Top) → In t ts →
                      In t (tops w.lines)
                  those_listed [] [] are t k = absurd k
                  those_listed [] (v ∷ ts) are t k = absurd are
                  those_listed (d ∷ ds) [] are t k = absurd are
                  those_listed (d ∷ ds) (v ∷ ts) are t (inl is) =
                      subst (λ y. In y (tops w.lines)) is (in_from v (tops w.lines) (let q = are.0 in q.listed))
                  those_listed (d ∷ ds) (v ∷ ts) are t (inr k) = those_listed ds ts are.1 t k

  -- and as the node has it
  pub held_past : (s : ℕ) (n : Node) (st : ObjectState) → at_place s w.nodes ≡ Some n → held_at (object x) n.disk.store ≡ Some st →
      (place : List ℕ) × (st ≡ state_to hd w.lines place x)
  held_past s n st here held =
      let h = o.holds in
      let b = h.begun in
      let j = b.journalled in
      let p = (j.sees.stores s n here).pair in
      let k = known (packed st) s (sym p.held_is ∙ ap (Words.option_map packed) held) in
      (k.0, one_state st (state_to hd w.lines k.0 x) (sym k.1) (p.keyed (object x) st held))
