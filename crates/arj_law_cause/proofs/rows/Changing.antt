-- Of whom a store names as in doubt for an object, that one has changed it, by the journal.
use Rattle.arj_law_parts.proofs.Words
use Words.{◌≡◌, ◌∙◌, ℕ, true, refl, List, Option, Some, None, sym, ap, subst, find, In, in_find, uid_eq, uid_is, Header, Node, ObjectState}
use Words.{Pair, Seen, Uid, actor, at_uid, holder_of, names_object, object, option_map}
use Rattle.arj_promise.specs.Runs.{HeaderFits}
use Words.{Head, Post, ◌∷◌, ◌&&◌, and_parts, are_of_objects, asks, inl, inr, is_object, nat_le, not, []}
use Words.ask
use Rattle.arj_journal.specs.declared.limits.TheConstants.{OBJECTS}
use Rattle.arj_law_parts.proofs.Terms as objects
use Rattle.arj_law_parts.specs.moves.Seen as seen
use Rattle.arj_law_promise.proofs.meant.Requests.{meant_keep}
use Rattle.arj_law_promise.specs.meant.Meant.{AskFits, MeantAreKnown}
use Rattle.arj_law_promise.proofs.Terms
use Terms.{IsKept, in_at, keeps_asked, some_is}
use Rattle.arj_law_promise.proofs.settling.{Joins.PreparedFrom, Rights.right_keep, Settled.sorted_as, Stills.IsRight}
use Rattle.arj_law_promise.proofs.settling.{StockRuns.StocksAreKnown, StockRuns.stocks_keep}
use Rattle.arj_law_runs.proofs.Terms.{Act, acts, new_book}
use Rattle.arj_law_runs.proofs.journal.Models.{its_sound}
use Rattle.arj_law_runs.specs.journal.Right.{AreRight}
use Rattle.arj_model.specs.CausePends.{changes}
use Rattle.arj_model.specs.CauseSpans.{holds_in}
use Rattle.arj_law_cause.proofs.confirm.Reached.{Reached, reached_has}
use Rattle.arj_law_cause.proofs.kinds.Committed.{act_found}
use Rattle.arj_law_cause.proofs.rows.Holders.{one_passes}
use Rattle.arj_law_cause.proofs.votes.Asks.{AskChanged, AsksAreChanged, ChangesEach, changed_keep}
use Rattle.arj_law_cause.specs.rows.{Early.IsEarly, Says.has_changed}

-- a list that names an object has a state of it
named_state : (u : Uid) (ss : List ObjectState) → names_object u ss ≡ true → (st : ObjectState) × In st ss × (st.uid ≡ u)
named_state u ss is =
    let r = one_passes (λ (s : ObjectState). uid_eq s.uid u) ss is in (r.0, r.1, uid_is (let s = r.0 in s.uid) u r.2)

-- whom a store names as in doubt has a state of the object prepared there
holder_state : (x u : Uid) (d : Pair) → objects.AreSorted d.pend → holder_of x d ≡ Some u →
    (ss : List ObjectState) × (at_uid u d.pend ≡ Some ss) × (names_object x ss ≡ true)
holder_state x u d sorted is = by (find (λ (p : Uid × List ObjectState). names_object x p.1) d.pend) refl is
  where
    by : (o : Option (Uid × List ObjectState)) → find (λ (p : Uid × List ObjectState). names_object x p.1) d.pend ≡ o →
        option_map (λ (p : Uid × List ObjectState). p.0) o ≡ Some u →
        (ss : List ObjectState) × (at_uid u d.pend ≡ Some ss) × (names_object x ss ≡ true)
    by None none e = absurd (cc e)
    by (Some p) some e = let f = in_find (λ (q : Uid × List ObjectState). names_object x q.1) p d.pend some in
        (p.1, subst (λ w. at_uid w d.pend ≡ Some p.1) (some_is e) (in_at p d.pend sorted f.0), f.1)

-- what it was asked to prepare its top has changed
pub doubt_changed : (hd : Header) (S : Seen) → Reached hd S → (n : ℕ) (a : Node) (x : ℕ) (u : Uid) → S.nodes n ≡ Some a →
    holder_of (object x) (let d = a.disk in d.store) ≡ Some u → HeaderFits hd → IsEarly S.lines → has_changed S.lines u x ≡ true
doubt_changed hd S reached n a x u here held form early =
    subst (λ o. holds_in (λ (b : Act). changes S.lines b.id x) o ≡ true)
    (sym (act_found (acts S.lines) (let s = its_sound S.lines right in s.distinct) its.0 its.1 u (its.2 ∙ post.6)))
    (subst (λ y. changes S.lines (let b = its.0 in b.id) y ≡ true) (ap (λ (w : Uid). w.num) st.2) (its.3 st.0 st.1))
  where
    rights : IsRight S
    rights = reached_has hd IsRight (keeps_asked hd IsRight (right_keep hd)) S reached

    right : AreRight new_book S.lines
    right = let k : IsKept S = rights.0.0.0.0 in let w = k.1 in w.right

    sorted : objects.AreSorted (let d = a.disk in let p = d.store in p.pend)
    sorted =
        let z = (let y = rights.0.0.1 in y.2.1) in
        let m = z.nodes n a here in
        let s = m.store in sorted_as (let d = a.disk in let p = d.store in p.pend) s.sorted

    states : (ss : List ObjectState) × (at_uid u (let d = a.disk in let p = d.store in p.pend) ≡ Some ss)
        × (names_object (object x) ss ≡ true)
    states = holder_state (object x) u (let d = a.disk in d.store) sorted held

    asked : (j : ℕ) × PreparedFrom j S.sent u n states.0
    asked =
        let stocked : StocksAreKnown hd S = reached_has hd (StocksAreKnown hd) (keeps_asked hd (StocksAreKnown hd)
        (stocks_keep hd form)) S reached in
        let s = stocked.1 in s.pend n a u states.0 here states.1

    post : PreparedFrom asked.0 S.sent u n states.0
    post = asked.1

    st : (z : ObjectState) × In z states.0 × (z.uid ≡ object x)
    st = named_state (object x) states.0 states.2

    its : ChangesEach S.lines (actor (let h = post.4 in h.path)) states.0
    its =
        let known : Reached hd S × AsksAreChanged hd S =
        reached_has hd (λ M. Reached hd M × AsksAreChanged hd M) (changed_keep hd form) S reached in
        (subst (AskChanged S.lines) post.5 (known.1 post.0 post.1).0).1 early

-- ---- requests

-- a state of an object is of its number
of_objects : (ss : List ObjectState) → are_of_objects ss ≡ true → (s : ObjectState) → In s ss →
    s.uid ≡ object (let u = s.uid in u.num)
of_objects [] all s i = absurd i
of_objects (t ∷ ts) all s (inl same) = subst (λ (z : ObjectState). z.uid ≡ object (let u = z.uid in u.num)) same
    (uid_is t.uid (object (let u = t.uid in u.num)) (and_parts (uid_eq t.uid (object (let u = t.uid in u.num)))
    (nat_le 1 (let u = t.uid in u.num) && nat_le (let u = t.uid in u.num) OBJECTS)
    (and_parts (is_object t.uid) (not (names_object t.uid ts) && are_of_objects ts) all).0).0)
of_objects (t ∷ ts) all s (inr more) = of_objects ts (and_parts (not (names_object t.uid ts)) (are_of_objects ts)
    (and_parts (is_object t.uid) (not (names_object t.uid ts) && are_of_objects ts) all).1).1 s more

-- who asks to prepare a state has changed its object, and so has another one that has it prepared there
pub prepare_changed : (hd : Header) (S : Seen) → Reached hd S → (n : ℕ) (a : Node) → S.nodes n ≡ Some a → (p : Post) → seen.In p S.sent →
    (h : Head) (states : List ObjectState) → asks p.message ≡ Some (h, ask.Prepare states) → (st : ObjectState) → In st states →
    (u : Uid) → holder_of st.uid (let d = a.disk in d.store) ≡ Some u → HeaderFits hd → IsEarly S.lines →
    (has_changed S.lines (actor h.path) (let w = st.uid in w.num) && has_changed S.lines u (let w = st.uid in w.num)) ≡ true
prepare_changed hd S reached n a here p there h states asking st among u held form early = λ i. mine i && theirs i
  where
    fits : AskFits hd (ask.Prepare states)
    fits = let known : MeantAreKnown hd S = reached_has hd (MeantAreKnown hd) (meant_keep hd form) S reached in
        known.1 p h (ask.Prepare states) there asking

    theirs : has_changed S.lines u (let w = st.uid in w.num) ≡ true
    theirs = doubt_changed hd S reached n a (let w = st.uid in w.num) u here
        (ap (λ z. holder_of z (let d = a.disk in d.store)) (sym (of_objects states fits.0 st among)) ∙ held) form early

    right : AreRight new_book S.lines
    right = let rights : IsRight S = reached_has hd IsRight (keeps_asked hd IsRight (right_keep hd)) S reached in
        let k : IsKept S = rights.0.0.0.0 in let w = k.1 in w.right

    its : ChangesEach S.lines (actor h.path) states
    its =
        let known : Reached hd S × AsksAreChanged hd S =
        reached_has hd (λ M. Reached hd M × AsksAreChanged hd M) (changed_keep hd form) S reached in
        (subst (AskChanged S.lines) asking (known.1 p there).0).1 early

    mine : has_changed S.lines (actor h.path) (let w = st.uid in w.num) ≡ true
    mine = subst (λ o. holds_in (λ (b : Act). changes S.lines b.id (let w = st.uid in w.num)) o ≡ true)
        (sym (act_found (acts S.lines) (let s = its_sound S.lines right in s.distinct) its.0 its.1 (actor h.path) its.2)) (its.3 st among)
