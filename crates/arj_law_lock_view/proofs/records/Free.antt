-- A new Record that comes to naming is of a top that has no entry of the object prepared.
use Rattle.arj_law_parts.proofs.Words
use Words.{◌≡◌, ◌∙◌, ◌≤◌, ◌<◌, ◌+◌, ◌*◌, ℕ, Bool, true, false, cond, List, [], ◌∷◌, refl, sym, ap, subst, ⊎_elim, arith, eqb-true, Some}
use Words.{nat_lt, AllByRecursion, is_eq, Ordering, Less, Equal, Greater, uid_order, Binding, Head, Header, ObjectState, Uid, asks, entry}
use Words.{is_on, top_of, Naming, Parts, at_uid, binding_number, Node, world_by, Post, Seen, see}
use Words.list
use Words.ask
use Rattle.arj_law_lock_view.proofs.Terms
use Terms.{AreBegun, owners_of, FitsAsked, IsAsker, IsGoodObject, IsUnrecorded, Untold, Fits, begun_fits, untold_path, owner_untold, Keeps}
use Terms.{AreSaid, HasGiven, KnowsFew, KeepsGiven, kept_both, some_is, AreFitting, HasIncluded, IsRecord, SentAreKnown, WasConfirmed}
use Terms.{Below, NamingHolds, NamingKnows, RecordsSettle, Passes, PassesNode, Tests}
use Terms.keys
use Rattle.arj_law_lock_view.proofs.facts.UpperWalks.{keeps_uppers}
use Rattle.arj_law_lock_view.proofs.records
use records.{CoordsKept.records_settle, Tops.top_among}
use records.Exact.{exact, exact_asked, exact_down, exact_passes, exact_past, exact_zero}
use records.NamingKept.{NamingBase, held_below, naming_given}
use Rattle.arj_law_lock_view.specs.records.Runs.{IsNewRecord, RecordsAreFree, RecordsKnown, RecordsRun, RunsFreeRecords}
use Rattle.arj_law_lock_view.specs.records.Tests.{PassesLive}
use Rattle.arj_law_parts.proofs.moves.{Happens.keeps_asked, Moving.moves_asked}
use Rattle.arj_law_parts.specs.moves.Seen.{In}
use Rattle.arj_law_runs.proofs.calls.{Given.both_given, Given.given_more, Given.keeps_given, MadeLines.counts_are_said, WholeRuns.few_go}

-- ---- all that is known

abbrev Beside : Seen → Type 0
Beside M = (RecordsSettle M × Below M) × AreSaid M

beside_keeps : (hd : Header) → Keeps hd Beside
beside_keeps hd = kept_both hd (λ M. RecordsSettle M × Below M) AreSaid
    (kept_both hd RecordsSettle Below (records_settle hd) (keeps_given hd RecordsSettle Below (keeps_uppers NamingHolds held_below hd)))
    (keeps_given hd (λ M. RecordsSettle M × Below M) AreSaid (counts_are_said hd))

-- it is kept where few bindings were made
records_known : (hd : Header) → KeepsGiven hd KnowsFew RecordsKnown
records_known hd = both_given hd KnowsFew Beside NamingKnows
    (keeps_given hd (λ M. KnowsFew M × NamingKnows M) Beside (beside_keeps hd))
    (given_more hd NamingBase (λ M. KnowsFew M × Beside M) NamingKnows (λ M g. (g.1.0, (g.0, g.1.1))) (naming_given hd))

-- ---- a new Record

found_all : (Q : Uid × List ObjectState → Type 0) (u : Uid) (states : List ObjectState) (ps : List (Uid × List ObjectState)) →
    at_uid u ps ≡ Some states → AllByRecursion Q ps → Q (u, states)
found_all Q u states [] is all = absurd (cc is)
found_all Q u states (e ∷ es) is all = by (uid_order u e.0) refl is (λ at. found_all Q u states es at all.1)
  where
    by : (r : Ordering) → uid_order u e.0 ≡ r → cond (is_eq r) (Some e.1) (at_uid u es) ≡ Some states →
        (at_uid u es ≡ Some states → Q (u, states)) → Q (u, states)
    by Equal same at ih = subst (λ v. Q (v, states)) (sym (keys.order_exact u e.0 same)) (subst (λ ss. Q (e.0, ss)) (some_is at) all.0)
    by Less other at ih = ih at
    by Greater other at ih = ih at

module _ (M : Seen) (few : KnowsFew M) (known : RecordsKnown M) (q : Node) (t : Parts) (n : Naming) (here : M.nodes 1 ≡ Some q)
    (live : q.live ≡ Some t) (at : t.naming ≡ Some n) where
  abbrev inc : ℕ
  inc = let d = q.disk in d.inc

  inc_is : n.inc ≡ (let d = q.disk in d.inc)
  inc_is = let l = few.1.0.1 in let g : HasGiven few.1.0.0 1 q = l.places 1 q here in (g.naming t n live at).1

  abbrev T : Tests
  T = exact (let d = q.disk in d.inc) n

  passes : Passes T M
  passes = (exact_zero (let d = q.disk in d.inc) n, λ m is. subst (PassesNode T) (some_is (sym here ∙ is)) whole)
    where
      its : PassesNode T (record { number = q.number; disk = q.disk; live = Some t })
      its = exact_passes q.number q.disk t n at inc_is

      whole : PassesNode T q
      whole = record {
        lists = its.lists;
        low = its.low;
        before = its.before;
        live = subst (PassesLive T (let d = q.disk in d.inc)) (sym live) its.live;
      }

  fit : AreFitting T M.sent
  fit = record {
    zero = exact_zero (let d = q.disk in d.inc) n;
    down = λ x v w. exact_down (let d = q.disk in d.inc) n x v w;
    answered = known.1.0 T passes;
  }

  sent_known : SentAreKnown M.sent
  sent_known = known.0.0.0.1.0

  begun : AreBegun (let b = known.0.0.1 in b.0)
  begun = let b = known.0.0.1 in let g = b.1 in g.begun

  module _ (p : Post) (h : Head) (x : ℕ) (b : Binding) (i g : ℕ) (there : In p M.sent) (asking : asks p.message
      ≡ Some (h, ask.Record x b i g)) (new : IsNewRecord x h b g n) (states : List ObjectState) (s : ObjectState) (prepared : at_uid
      (top_of h.path) (let d = q.disk in let e = d.names in e.pend) ≡ Some states) (inside : list.In s states) (of : s.uid ≡ entry x) where
    who : IsAsker (let w = known.0.0.1 in w.0) h.path
    who = subst (FitsAsked (let w = known.0.0.1 in w.0) p.message) asking (let w = known.0.0.1 in let f = w.1 in f.fits p there)

    holds : NamingHolds (let w = known.0.0.1 in w.0) n
    holds = let w = known.0.0.1 in let u = w.2 1 q here in u.live t n live at

    good : IsGoodObject (owners_of (let w = known.0.0.1 in w.0)) (is_on n.told) n.inc n.count x new.named
    good = let o = holds.0 in o.objects x new.named new.there

    untold : Untold (is_on n.told) h.path
    untold = untold_path h.path n new.untold

    fits : Fits (owners_of (let w = known.0.0.1 in w.0)) h.path
    fits = subst (Fits (owners_of (let w = known.0.0.1 in w.0))) who.2 (begun_fits (let w = known.0.0.1 in w.0) begun who.0 who.1 who.3)

    last : IsUnrecorded (top_of h.path) new.made new.named
    last = good.unrecorded (top_of h.path) new.made new.of new.unrecorded
        (owner_untold (owners_of (let w = known.0.0.1 in w.0)) (is_on n.told) x h.path fits untold)

    same : binding_number b ≡ binding_number (let m = new.made in m.binding)
    same = eqb-true (binding_number b) (binding_number (let m = new.made in m.binding)) new.same

    was : WasConfirmed M.sent (top_of h.path) x
    was = subst (WasConfirmed M.sent (top_of h.path)) (ap (λ (u : Uid). u.num) of) (found_all (λ (e : Uid × List ObjectState).
        (z : ObjectState) → list.In z e.1 → WasConfirmed M.sent e.0 (let u = z.uid in u.num)) (top_of h.path) states (let d = q.disk in
        let e = d.names in e.pend) prepared (known.1.1 (let k = sent_known in k.first) q here) s inside)

    its : IsRecord M.sent (top_of h.path) x b g
    its = record { post = p; head = h; inc = i; posted = there; asking = asking; top_is = refl }

    past_not : (let z = T in z.past x (binding_number b)) ≡ true → ⊥
    past_not on = ⊎_elim early late (exact_past (let d = q.disk in d.inc) n x (binding_number b) new.named new.there on)
      where
        early : binding_number b < n.inc * 4294967296 → ⊥
        early lt = below (binding_number b) (let m = new.made in let c = m.binding in c.inc) (let m = new.made in let c = m.binding in
            c.count) n.inc lt same ((good.made (top_of h.path) new.made new.of).1.0)
          where
            below : (v i c j : ℕ) → v < j * 4294967296 → v ≡ i * 4294967296 + c → i ≡ j → ⊥
            below v i c j l e f = omega (arith, l, e, f)

        late : (c : Binding) × ((let o = new.named in o.recorded) ≡ Some c) × (binding_number b ≤ binding_number c) → ⊥
        late (c, rec, le) = apart (binding_number b) (binding_number c) (binding_number (let m = new.made in m.binding)) le same
            (less (binding_number c) (binding_number (let m = new.made in m.binding)) (last.above c rec))
          where
            less : (a d : ℕ) → nat_lt a d ≡ true → a < d
            less a d l = grind (arith, l)

            apart : (a c m : ℕ) → a ≤ c → a ≡ m → c < m → ⊥
            apart a c m l e f = omega (arith, l, e, f)

    included_not : HasIncluded T x (top_of h.path) was.grants → ⊥
    included_not (c, gi, inn, le, asked) = ⊎_elim
        (λ (on : is_on (let o = new.named in o.asked) (top_of h.path) ≡ true). never on new.unasked)
        (λ on. never (top_among (let w = known.0.0.1 in w.0) begun h.path who) (untold (top_of h.path) on))
        (exact_asked (let d = q.disk in d.inc) n x (top_of h.path) gi new.named new.there
        (upto n.inc g was.inc c gi new.inc (was.late b g its) (was.one c inn) le) asked)
      where
        never : {e : Bool} → e ≡ true → e ≡ false → ⊥
        never holds_so fails = let no_way : true ≡ false = sym holds_so ∙ fails in cc no_way

        upto : (n g w c i : ℕ) → g ≡ n → g ≤ w → c ≡ w → c ≤ i → n ≤ i
        upto n g w c i a b e l = omega (arith, a, b, e, l)

    pub none_so : ⊥
    none_so = ⊎_elim past_not included_not
        ((let k = sent_known in k.claims T fit).1 (top_of h.path) was.grants was.excluded was.included x b g was.confirm its was.marked)

pub records_free : (M : Seen) → KnowsFew M → RecordsKnown M → RecordsAreFree M
records_free M few known q t n p h x b i g here live at there asking new states s prepared inside of =
    none_so M few known q t n here live at p h x b i g there asking new states s prepared inside of

-- so much is kept by each handler
pub records_run_on : (hd : Header) → Keeps hd RecordsRun
records_run_on hd = few_go hd RecordsKnown (records_known hd)

pub records_are_free : RunsFreeRecords
records_are_free hd r few =
    let h = moves_asked hd RecordsRun (keeps_asked hd RecordsRun (records_run_on hd)) r in
    record {
      sent = h.sent;
      stands = h.stands;
      holds = (let w = h.holds.1 few in records_free (see h.sent (world_by hd r)) (few, w.0) w.1);
    }
