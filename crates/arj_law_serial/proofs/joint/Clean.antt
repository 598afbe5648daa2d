-- Files are clean in each world that is reached, by both machines of each object, with what is named.
use Rattle.arj_law_parts.proofs.Words
use Words.{Contains, ◌≡◌, ◌⊎◌, ◌<◌, ◌==◌, ◌&&◌, ◌||◌, ◌++◌, ℕ, Bool, not, cond, false, eqb-true, eq-eqb, List, [], ◌∷◌, true, is_some, refl}
use Words.{subst, inl, inr, ⊎_elim, filter, ap, sym, ◌∙◌, Option, Some, None, In, in_find_none, in_from, in_to, Header, Line, ObjectLine}
use Words.{World, Start, and_parts, journal_by, number_tells, uid_number, world_by, see, Wrote, DisksAre, IsSerialBy}
use Rattle.arj_law_serial.proofs.Terms
use Terms.{HeaderFits, Act, acts, Top, tops, CleanFrom, Disks, marked, first_values, increasing, is_among, joins_of, leaves_of}
use Terms.{listed_from}
use Terms.{object_line, serial_tops, Values, new_book, AreRight, IsKept, kept_right, lines_keep, counts_of, Done, Packed}
use Terms.{decided as decided_so, target, Core, bool_cases, IdleInPlace, first_stores, HasNothing, or_which, one_act, its_sound, IsReached}
use Terms.{Keeping, kept_holds, HaveForm, IsCleanIn, AreDecided, AreDecisions, AreNewestFirst, DecideChanges, Joined, WroteSo, HasObject}
use Terms.{OpsFit, IncludersTakeTurns, JoinersAreNewestFirst, AreSpared, AreTurnsOf, IsOrderedSo, IncludesAreThere, WritersAreNewestFirst}
use Terms.{AreBareSo, AreWritten, IsJoinedSo, State, IsTied}
use Terms.words as disk
use Terms.disk as disk_machine
use Rattle.arj_law_disk.proofs.machine.Listing.{filter_none}
use Rattle.arj_law_parts.specs.moves.Keeps.{Holds}
use Rattle.arj_law_runs.proofs.journal.Books.{never}
use Rattle.arj_law_serial.proofs.joint
use joint.{FitRuns.runs_in_form, FormRuns.kept_have_form, JoinOrder.decided_joiners_stand, JoinedRuns.reached_joined, LightStep.decided_out}
use joint.{Listing.in_among, Naming.decided_named, Showing.readings_show_pairs, Starting.start_stays}
use joint.Called.{decided_writers_stand, decision_of, number_is, one_number, those_of, wrote_something}
use joint.IdlePlaces.{added, all_idle, all_those, none_among, serial_there}
use joint.LightPlaces.{is_there, unlisted_there}
use joint.NamedTops.{AreLockTied, AreNamed, disk_of, is_one_of, number_of}
use Rattle.arj_law_serial.proofs.order
use order.{Cleaning.is_clean, Including.are_decided, Including.changers_turn, Order.IsTopOf, Order.top_item, Seeing.locked_serial}
use order.{Seeing.locked_tied, Shown.readings_clean, Ties.Ties, Ties.ties_of}
use Rattle.arj_law_serial.proofs.whole.WholeRuns.{kept_call_objects, kept_include_objects}
use Rattle.arj_law_serial.specs.joint.{Cleaned.RunsAreClean, Includers.TakesTurnsSo, Joined.JoinedRunsAreSerial, Joined.JoinedRunsAreTied}
use Rattle.arj_law_serial.specs.order.Tied.{AreTied}

counted_in : (d : Done) (ds : List Done) → disk.In d ds → d.counts ≡ true → disk.In d (filter counts_of ds)
counted_in d [] i is = absurd i
counted_in d (e ∷ ds) (inl same) is =
    subst (λ b. disk.In d (cond b (e ∷ filter counts_of ds) (filter counts_of ds))) (sym (ap counts_of same ∙ is)) (inl same)
counted_in d (e ∷ ds) (inr i) is = by e.counts (counted_in d ds i is)
  where
    by : (b : Bool) → disk.In d (filter counts_of ds) → disk.In d (cond b (e ∷ filter counts_of ds) (filter counts_of ds))
    by true j = inr j
    by false j = j

found_there : (t : Top) (ts : List Top) → is_one_of ts t ≡ true → (u : Top) × In u ts × (u.id ≡ t.id)
found_there t [] on = absurd (cc on)
found_there t (u ∷ ts) on = ⊎_elim (λ here. (u, inl refl, eqb-true u.id t.id here)) (λ there. let r = found_there t ts there in
    (r.0, inr r.1, r.2)) (or_which (u.id == t.id) (is_one_of ts t) on)

later : (u : Top) (t : Top) (ts : List Top) → Contains ts u → Contains (t ∷ ts) u
later u t ts i = in_to u (t ∷ ts) (inr (in_from u ts i))

-- each of two of them wrote the object, or one of the two didn't
newest_first : (lines : List Line) (x : ℕ) (ts : List Top) → ((t : Top) → Contains ts t → Wrote lines x t ⊎ (Wrote lines x t → ⊥)) →
    WritersAreNewestFirst lines x ts → JoinersAreNewestFirst lines x ts → AreNewestFirst ts
newest_first lines x [] wrote writers joiners = tt
newest_first lines x (t ∷ ts) wrote writers joiners = (
  all_those (λ (u : Top). u.at < t.at) ts (λ u i. by u i (wrote u (later u t ts i)) (wrote t (in_to t (t ∷ ts) (inl refl)))),
  newest_first lines x ts (λ u i. wrote u (later u t ts i)) writers.1 joiners.1,
)
  where
    by : (u : Top) → Contains ts u → Wrote lines x u ⊎ (Wrote lines x u → ⊥) → Wrote lines x t ⊎ (Wrote lines x t → ⊥) → u.at < t.at
    by u i (inl a) (inl b) = writers.0 u i a b
    by u i (inl a) (inr b) = joiners.0 u i (λ w v. b v)
    by u i (inr a) b = joiners.0 u i (λ w v. a w)

-- a decided top gave something to the stores, and wrote the object, or it didn't
wrote_or_not : (values : Values) (lines : List Line) (x : ℕ) (ds : List Done) (ts : List Top) → AreDecisions values lines x ds ts →
    (t : Top) → In t ts → Wrote lines x t ⊎ (Wrote lines x t → ⊥)
wrote_or_not values lines x [] [] are t i = absurd i
wrote_or_not values lines x [] (u ∷ ts) are t i = absurd are
wrote_or_not values lines x (d ∷ ds) [] are t i = absurd are
wrote_or_not values lines x (d ∷ ds) (u ∷ ts) are t (inl same) =
    subst (λ (z : Top). Wrote lines x z ⊎ (Wrote lines x z → ⊥)) same (let q = are.0 in by (let p = d.plan in p.writes) q.wrote)
  where
    by : (o : Option Packed) → WroteSo values lines x u o → Wrote lines x u ⊎ (Wrote lines x u → ⊥)
    by None none = inr (λ (c, listed, write, whose). never write (none c listed whose))
    by (Some w) (c, last, writer, content) = inl (c, last.there, last.write, last.whose)
wrote_or_not values lines x (d ∷ ds) (u ∷ ts) are t (inr i) = wrote_or_not values lines x ds ts are.1 t i

-- ---- those that are named wrote what they gave

of_filter : (d : Done) (ds : List Done) → disk.In d (filter counts_of ds) → disk.In d ds
of_filter d [] i = absurd i
of_filter d (e ∷ ds) i = by e.counts (of_filter d ds) i
  where
    by : (b : Bool) → (disk.In d (filter counts_of ds) → disk.In d ds) →
        disk.In d (cond b (e ∷ filter counts_of ds) (filter counts_of ds)) → disk.In d (e ∷ ds)
    by true ih (inl same) = inl same
    by true ih (inr k) = inr (ih k)
    by false ih k = inr (ih k)

counts_in : (d : Done) (ds : List Done) → disk.In d (filter counts_of ds) → d.counts ≡ true
counts_in d [] i = absurd i
counts_in d (e ∷ ds) i = by e.counts refl (counts_in d ds) i
  where
    by : (b : Bool) → e.counts ≡ b → (disk.In d (filter counts_of ds) → d.counts ≡ true) →
        disk.In d (cond b (e ∷ filter counts_of ds) (filter counts_of ds)) → d.counts ≡ true
    by true is ih (inl same) = ap counts_of (sym same) ∙ is
    by true is ih (inr k) = ih k
    by false is ih k = ih k

-- what they take out of the list is what their commits excluded
abbrev Leave : List Line → ℕ → List Done → Type 0
Leave lines x ds = (d : Done) (t : Top) → disk.In d ds → Contains (tops lines) t → d.top ≡ number_of lines t → (s : ℕ) →
    (target d.plan s && not (d.got s)) ≡ is_among (leaves_of lines t.id x) s

-- and what they add to it is what survives of their includes, and wasn't excluded
abbrev Join : List Line → ℕ → List Done → Type 0
Join lines x ds = (d : Done) (t : Top) → disk.In d ds → Contains (tops lines) t → d.top ≡ number_of lines t →
    filter d.got (let p = d.plan in p.joins) ≡ increasing (filter (λ s. not (is_among (leaves_of lines t.id x) s)) (joins_of lines t.id x))

are_decisions : (values : Values) (lines : List Line) (x : ℕ) (ds : List Done) (ts : List Top) → AreNamed lines ds ts →
    AreWritten values lines x ds → Leave lines x ds → Join lines x ds → AreDecisions values lines x ds ts
are_decisions values lines x [] [] named wrote leave join = tt
are_decisions values lines x [] (t ∷ ts) named wrote leave join = absurd named
are_decisions values lines x (d ∷ ds) [] named wrote leave join = absurd named
are_decisions values lines x (d ∷ ds) (t ∷ ts) named wrote leave join =
    let n = named.0 in (
      record {
        listed = n.listed;
        number = n.number;
        wrote = wrote d t (inl refl) n.listed n.number;
        leaves = leave d t (inl refl) n.listed n.number;
        joins = join d t (inl refl) n.listed n.number;
      },
      are_decisions values lines x ds ts named.1 (λ e u i. wrote e u (inr i)) (λ e u i. leave e u (inr i)) (λ e u i. join e u (inr i)),
    )

-- a state of the disk machine in which decisions are those of the journal
abbrev pub Held : Header → World → Type 0
Held hd w = (x : ℕ) → is_some (object_line hd x) ≡ true → Holds hd (TakesTurnsSo hd x) w

abbrev pub OrderedOf : Header → World → ℕ → Type 0
OrderedOf hd w x = Holds hd (IsOrderedSo hd x) w

abbrev pub ordered_of : (hd : Header) (w : World) (x : ℕ) → Holds hd (TakesTurnsSo hd x) w → OrderedOf hd w x
ordered_of hd w x h = record { sent = h.sent; stands = h.stands; holds = (let o = h.holds in o.ordered) }

-- in which they are named, and wrote what they gave
abbrev pub Decides : (hd : Header) (w : World) → Held hd w → Type 0
Decides hd w held = (x : ℕ) (there : is_some (object_line hd x) ≡ true) →
    AreWritten (first_values hd) w.lines x (let S = disk_of (let h = ordered_of hd w x (held x there) in h.holds) in S.tops)
    × AreBareSo w.lines x (disk_of (let h = ordered_of hd w x (held x there) in h.holds))

module _ (hd : Header) (w : World) (keeping : Keeping hd w) (form : HeaderFits hd) (tied : AreLockTied hd w.lines) (held : Held hd w)
    (decide : Decides hd w held) where
  pub right : AreRight new_book w.lines
  right = kept_right hd w keeping

  pub ties : Ties (first_values hd) w.lines
  ties = ties_of (first_values hd) w.lines tied.called

  module _ (x : ℕ) (there : is_some (object_line hd x) ≡ true) where
    abbrev h : OrderedOf hd w x
    h = ordered_of hd w x (held x there)

    abbrev its_disk : disk_machine.State
    its_disk = disk_of h.holds

    abbrev dones : List Done
    dones = (let S = disk_of h.holds in S.tops)

    written : AreWritten (first_values hd) w.lines x dones
    written = (decide x there).0

    turns : AreTurnsOf w.lines dones
    turns = let o = h.holds in o.turns

    includers : IncludersTakeTurns w.lines dones
    includers = let k = held x there in let o = k.holds in o.includers

    -- those that count, in the journal
    named : (ts : List Top) × AreNamed w.lines (filter counts_of dones) ts
    named = decided_named hd w keeping x h

    abbrev those : List Top
    those = named.0

    leave : Leave w.lines x (filter counts_of dones)
    leave e t i listed number s =
        let k = top_item w.lines right t (in_from t (tops w.lines) listed) in
        let z = tied.listed x there in
        let o = h.holds in
        o.leaves e k.act (of_filter e dones i) (in_to k.act (acts w.lines) k.there)
        (sym (number ∙ number_is (first_values hd) w.lines x z.0 right z.1 t k)) s
        ∙ ap (λ n. is_among (leaves_of w.lines n x) s) k.number

    -- what a decided top adds to the list
    joins_so : (e : Done) (t : Top) → disk.In e (let S = disk_of h.holds in S.tops) → Contains (tops w.lines) t →
        e.top ≡ number_of w.lines t → filter e.got (let p = e.plan in p.joins) ≡ added w.lines x t
    joins_so e t i listed number =
        let k = top_item w.lines right t (in_from t (tops w.lines) listed) in
        let z = tied.listed x there in
        let o = h.holds in
        o.joins e k.act i (in_to k.act (acts w.lines) k.there) (sym (number ∙ number_is (first_values hd) w.lines x z.0 right z.1 t k))
        ∙ ap (λ n. increasing (filter (λ s. not (is_among (leaves_of w.lines n x) s)) (joins_of w.lines n x))) k.number

    join : Join w.lines x (filter counts_of dones)
    join e t i listed number = joins_so e t (of_filter e dones i) listed number

    decisions : AreDecisions (first_values hd) w.lines x (filter counts_of dones) those
    decisions = are_decisions (first_values hd) w.lines x (filter counts_of dones) those named.1
        (λ e t i. written e t (of_filter e dones i)) leave join

    -- its number in the disk machine is that of its action
    its_number : (t : Top) (i : In t (tops w.lines)) →
        number_of w.lines t ≡ uid_number (let k = top_item w.lines right t i in let a = k.act in a.uid)
    its_number t i = let z = tied.listed x there in number_is (first_values hd) w.lines x z.0 right z.1 t (top_item w.lines right t i)

    -- nothing of it survives, and it excluded no store
    abbrev HasNoPart : Act → Type 0
    HasNoPart a = HasNothing w.lines a × ((s : ℕ) → is_among (leaves_of w.lines a.id x) s ≡ false)

    -- a top of the journal is one of them, or one that doesn't count; its commit ended without a record, or it had no part in the object
    place : (t : Top) (i : In t (tops w.lines)) →
        In t those ⊎ ((e : Done) × disk.In e dones × (e.top ≡ number_of w.lines t) × (e.counts ≡ false))
        ⊎ ((let S = disk_of h.holds in S.bare (number_of w.lines t)) ≡ true) ⊎ HasNoPart (let k = top_item w.lines right t i in k.act)
    place t i = ⊎_elim
        (λ (on : decided_so (disk_of h.holds) (uid_number (let a = k.act in a.uid)) ≡ true).
        let r = decided_out dones (uid_number (let a = k.act in a.uid)) on in
        counts r.0 r.1 r.2 (let e = r.0 in e.counts) refl)
        (λ (rest : ((let S = disk_of h.holds in S.bare (uid_number (let a = k.act in a.uid))) ≡ true) ⊎ HasNoPart k.act). bare_or rest)
        (spared k.act (in_to k.act (acts w.lines) k.there) k.kind k.done)
      where
        k : IsTopOf w.lines t
        k = top_item w.lines right t i

        spared : AreSpared w.lines x (disk_of h.holds)
        spared = let o = h.holds in o.spared

        bare_or : ((let S = disk_of h.holds in S.bare (uid_number (let a = k.act in a.uid))) ≡ true) ⊎ HasNoPart k.act
            → In t those ⊎ ((e : Done) × disk.In e dones × (e.top ≡ number_of w.lines t) × (e.counts ≡ false))
            ⊎ ((let S = disk_of h.holds in S.bare (number_of w.lines t)) ≡ true) ⊎ HasNoPart k.act
        bare_or (inl bare) = inr (inr (inl (ap (λ (n : ℕ). let S = disk_of h.holds in S.bare n) (its_number t i) ∙ bare)))
        bare_or (inr none) = inr (inr (inr none))

        counts : (e : Done) → disk.In e dones → e.top ≡ uid_number (let a = k.act in a.uid) → (b : Bool) → e.counts ≡ b
            → In t those ⊎ ((e : Done) × disk.In e dones × (e.top ≡ number_of w.lines t) × (e.counts ≡ false))
            ⊎ ((let S = disk_of h.holds in S.bare (number_of w.lines t)) ≡ true) ⊎ HasNoPart k.act
        counts e j same true is =
            let z = tied.listed x there in
            let r = those_of (first_values hd) w.lines x z.0 right z.1 (filter counts_of dones) those decisions e
            (counted_in e dones j is) in
            let o = r.2 in
            let m = o.its in
            let uids = number_tells m.act.uid k.act.uid (sym o.number ∙ same) in
            let act = one_act (acts w.lines) (let q = its_sound w.lines right in q.distinct) m.act k.act m.there k.there uids in
            inl (subst (λ u. In u those) (one_number (first_values hd) w.lines x z.0 right z.1 r.0 t o.listed i
            (sym m.number ∙ ap (λ (y : Act). y.id) act ∙ k.number)) r.1)
        counts e j same false is = inr (inl (e, j, same ∙ sym (its_number t i), is))

    -- each that wrote the object is one of them
    wrote_all : (t : Top) → In t (tops w.lines) → Wrote w.lines x t → In t those
    wrote_all t i wrote = by (place t i)
      where
        k : IsTopOf w.lines t
        k = top_item w.lines right t i

        by : In t those ⊎ ((e : Done) × disk.In e dones × (e.top ≡ number_of w.lines t) × (e.counts ≡ false))
            ⊎ ((let S = disk_of h.holds in S.bare (number_of w.lines t)) ≡ true) ⊎ HasNoPart k.act → In t those
        by (inl one) = one
        by (inr (inl (e, j, same, is))) =
            let b = (let o = h.holds in o.begun) in
            let g = b.journalled in
            let core = (let v = g.sees.whole in v.core) in
            let nothing = (let z = core.journal in z.plain e j is) in
            let none = subst (WroteSo (first_values hd) w.lines x t) nothing (written e t j (in_to t (tops w.lines) i) same) in
            absurd (never wrote.2 (none wrote.0 wrote.1 wrote.3))
        by (inr (inr (inl bare))) = absurd (let d2 = decide x there in d2.1 t (in_to t (tops w.lines) i) bare wrote)
        by (inr (inr (inr none))) = absurd (wrote_something w.lines x t k.act k.number wrote none.0)

    -- one whose commit ended without a record touched nothing
    spared_by : (t : Top) (i : In t (tops w.lines)) → (let S = disk_of h.holds in S.bare (number_of w.lines t)) ≡ true → (s : ℕ)
        → (let k = top_item w.lines right t i in let a = k.act in
        (is_among (leaves_of w.lines a.id x) s ≡ false) × (is_among (joins_of w.lines a.id x) s ≡ false))
    spared_by t i bare s = let k = top_item w.lines right t i in let o = h.holds in o.untouched k.act (in_to k.act (acts w.lines) k.there)
        (sym (ap (λ (n : ℕ). let S = disk_of h.holds in S.bare n) (its_number t i)) ∙ bare) s

    -- each of the others adds no store
    adds_none : (t : Top) → In t (tops w.lines) → is_one_of those t ≡ false → added w.lines x t ≡ []
    adds_none t i off = by (place t i)
      where
        k : IsTopOf w.lines t
        k = top_item w.lines right t i

        empty : joins_of w.lines (let a = k.act in a.id) x ≡ [] → added w.lines x t ≡ []
        empty is = ap (λ ns. increasing (filter (λ s. not (is_among (leaves_of w.lines t.id x) s)) ns))
            (ap (λ n. joins_of w.lines n x) (sym k.number) ∙ is)

        by : In t those ⊎ ((e : Done) × disk.In e dones × (e.top ≡ number_of w.lines t) × (e.counts ≡ false))
            ⊎ ((let S = disk_of h.holds in S.bare (number_of w.lines t)) ≡ true) ⊎ HasNoPart k.act → added w.lines x t ≡ []
        by (inl one) = absurd (never (is_there t those one) off)
        by (inr (inl (e, j, same, is))) =
            let o = h.holds in
            sym (joins_so e t j (in_to t (tops w.lines) i) same) ∙ filter_none e.got (let p = e.plan in p.joins) (λ s on. o.still e j is s)
        by (inr (inr (inl bare))) = empty (none_among (joins_of w.lines (let a = k.act in a.id) x) (λ s. (spared_by t i bare s).1))
        by (inr (inr (inr none))) = empty (let z = none.0 in z.includes x)

    all : (t : Top) → Contains (tops w.lines) t → (is_one_of those t ≡ true) ⊎ Wrote w.lines x t → Contains those t
    all t c (inl on) =
        let z = tied.listed x there in
        let r = found_there t those on in
        let e = decision_of (first_values hd) w.lines x z.0 right z.1 (filter counts_of dones) those decisions r.0 r.1 in
        in_to t those (subst (λ u. In u those)
        (one_number (first_values hd) w.lines x z.0 right z.1 r.0 t (let o = e.2 in o.listed) (in_from t (tops w.lines) c) r.2) r.1)
    all t c (inr wrote) = in_to t those (wrote_all t (in_from t (tops w.lines) c) wrote)

    wrote_so : (t : Top) → Contains those t → Wrote w.lines x t ⊎ (Wrote w.lines x t → ⊥)
    wrote_so t i = wrote_or_not (first_values hd) w.lines x (filter counts_of dones) those decisions t (in_from t those i)

    -- one that counts and didn't write the object included a store of it
    joined_one : (t : Top) → Contains those t → (Wrote w.lines x t → ⊥) → Joined w.lines x t
    joined_one t i none =
        let z = tied.listed x there in
        let e = decision_of (first_values hd) w.lines x z.0 right z.1 (filter counts_of dones) those decisions t (in_from t those i) in
        let q = e.2 in
        let k = q.its in
        let o = h.holds in
        let gave = written e.0 t (of_filter e.0 dones e.1) (in_to t (tops w.lines) q.listed)
        (q.number ∙ sym (number_is (first_values hd) w.lines x z.0 right z.1 t k)) in
        let j = o.counted e.0 k.act (of_filter e.0 dones e.1) (in_to k.act (acts w.lines) k.there) (sym q.number) (counts_in e.0 dones e.1)
        (nothing (let p = (let f = e.0 in f.plan) in p.writes) gave) in
        (j.0, subst (λ n. Contains (joins_of w.lines n x) j.0) k.number j.1)
      where
        nothing : (g : Option Packed) → WroteSo (first_values hd) w.lines x t g → g ≡ None
        nothing None so = refl
        nothing (Some g) (c, last, writer, content) = absurd (none (c, last.there, last.write, last.whose))

    called_so : AreNewestFirst those
    called_so = newest_first w.lines x those wrote_so (let t = tied.listed x there in decided_writers_stand (first_values hd) w.lines x t.0
        right t.1 dones those turns decisions (let o = h.holds in o.once)) (let t = tied.listed x there in
        decided_joiners_stand (first_values hd) w.lines x t.0 right t.1 dones those includers decisions joined_one)

    changed : (t : Top) → Contains those t → Wrote w.lines x t ⊎ Joined w.lines x t
    changed t i = ⊎_elim (λ wrote. inl wrote) (λ none. inr (joined_one t i none)) (wrote_so t i)

    -- each of the others excludes no store that is listed in its place
    excludes : (before : List Top) (t : Top) (after : List Top) → serial_tops w.lines ≡ before ++ (t ∷ after) → In t (tops w.lines) →
        is_one_of those t ≡ false → (s : ℕ) → is_among (listed_from w.lines x (first_stores hd x) (filter (is_one_of those) before)) s
        ≡ true → is_among (leaves_of w.lines t.id x) s ≡ false
    excludes before t after is i off s among = by (place t i)
      where
        k : IsTopOf w.lines t
        k = top_item w.lines right t i

        its : is_among (leaves_of w.lines (let a = k.act in a.id) x) s ≡ false → is_among (leaves_of w.lines t.id x) s ≡ false
        its none = ap (λ n. is_among (leaves_of w.lines n x) s) (sym k.number) ∙ none

        -- a decided one, whose plan has the store
        light : (e : Done) → disk.In e dones → e.top ≡ number_of w.lines t → e.counts ≡ false →
            is_among (leaves_of w.lines t.id x) s ≡ true → ⊥
        light e j same is_light leaves = never among (unlisted_there (first_values hd) w.lines right x z.0 z.1 (changers_turn
            (first_values hd) w.lines right x z.0 z.1 ties) its_disk.first_entry (w.start.marks.entries x)
            (first_stores hd x) begins dones those decisions called_so
            changed (λ u c on. all u c (inl on)) t k i off (s, subst (λ n. Contains (joins_of w.lines n x) s) k.number joins)
            (let p = e.plan in p.joins) (let l = held x there in let g = l.holds in
            g.lights e k.act j is_light act_there number s has_it) before after is s has_it)
          where
            z : (T : State) × IsTied (first_values hd) w.lines x T
            z = tied.listed x there

            number : uid_number (let a = k.act in a.uid) ≡ e.top
            number = sym (same ∙ its_number t i)

            act_there : Contains (acts w.lines) k.act
            act_there = in_to k.act (acts w.lines) k.there

            core : Core its_disk
            core = let o = h.holds in let b = o.begun in let g = b.journalled in let v = g.sees.whole in v.core

            has_it : disk.has s (let p = e.plan in p.joins) ≡ true
            has_it = ap (λ (o : Option Packed). (is_some o && disk.has s (let p = e.plan in p.list)) || disk.has s (let p = e.plan in
                p.joins)) (sym (let g = core.journal in g.plain e j is_light)) ∙ (and_parts (target e.plan s) (not (e.got s)) ((let o =
                h.holds in o.leaves e k.act j act_there number s) ∙ ap (λ n. is_among (leaves_of w.lines n x) s) k.number ∙ leaves)).0

            joins : Contains (joins_of w.lines (let a = k.act in a.id) x) s
            joins = in_to s (joins_of w.lines (let a = k.act in a.id) x) (in_among (joins_of w.lines (let a = k.act in a.id) x) s
                (sym (let o = h.holds in o.included e k.act j act_there number s) ∙ has_it))

            begins : its_disk.first_entry ≡ marked (w.start.marks.entries x) (first_stores hd x)
            begins = let o = h.holds in let b = o.begun in let g = b.begins in g.entry

        by : In t those ⊎ ((e : Done) × disk.In e dones × (e.top ≡ number_of w.lines t) × (e.counts ≡ false))
            ⊎ ((let S = disk_of h.holds in S.bare (number_of w.lines t)) ≡ true) ⊎ HasNoPart k.act →
            is_among (leaves_of w.lines t.id x) s ≡ false
        by (inl one) = absurd (never (is_there t those one) off)
        by (inr (inl (e, j, same, is_light))) =
            ⊎_elim (λ leaves. absurd (light e j same is_light leaves)) (λ none. none) (bool_cases (is_among (leaves_of w.lines t.id x) s))
        by (inr (inr (inl bare))) = its (spared_by t i bare s).0
        by (inr (inr (inr none))) = its (none.1 s)

    idle : IdleInPlace w.lines x (is_one_of those) (first_stores hd x) (serial_tops w.lines)
    idle = all_idle w.lines x (is_one_of those) (first_stores hd x) (serial_tops w.lines) adds_none excludes (serial_there w.lines)

    changes : DecideChanges hd w.lines x dones
    changes = record {
      those = those;
      each = decisions;
      called = called_so;
      counts = is_one_of those;
      counted = λ t i. (is_there t those (in_from t those i), changed t i);
      all = all;
      idle = idle;
    }

    pub decided : AreDecided hd w.lines x dones
    decided = let t = tied.listed x there in are_decided hd w.lines right ties x t.0 t.1 dones changes

    pub formed : HaveForm hd x (see h.sent w)
    formed = let f = kept_have_form hd x form w keeping in f.holds

    clean_seen : IsCleanIn hd w.lines x (see h.sent w)
    clean_seen =
        let o = h.holds in
        let b = o.begun in
        let j = b.journalled in
        is_clean hd w.lines right ties x j.tops j.machine (see h.sent w) j.sees decided b.begins formed

    pub clean_of : IsCleanIn hd w.lines x (see [] w)
    clean_of = record { names = clean_seen.names; stores = clean_seen.stores }

-- ---- includes

pub object_some : (hd : Header) (x : ℕ) → HasObject hd x → is_some (object_line hd x) ≡ true
object_some hd x (o, there, same) = by (object_line hd x) refl
  where
    by : (q : Option ObjectLine) → object_line hd x ≡ q → is_some q ≡ true
    by (Some p) is = refl
    by None none =
        absurd (never (eq-eqb o.x x same) (in_find_none (λ (p : ObjectLine). p.x == x) o hd.objects none (in_from o hd.objects there)))

-- they are of objects and nodes of the header
pub includes_there : (hd : Header) (w : World) → Keeping hd w → IncludesAreThere hd w.lines
includes_there hd w keeping i there = let of = kept_include_objects hd w keeping i there in
    (of.1, object_some hd (let k = i.it in k.x) of.0)

-- ---- with both machines

-- both machines of each object of the header, at once
abbrev pub AreJoined : Header → World → Type 0
AreJoined hd w = (x : ℕ) → is_some (object_line hd x) ≡ true → Holds hd (IsJoinedSo hd x) w

module _ (hd : Header) (w : World) (keeping : Keeping hd w) (joined : AreJoined hd w) where
  tied_at : (x : ℕ) → is_some (object_line hd x) ≡ true → (S : State) × IsTied (first_values hd) w.lines x S
  tied_at x there = let h = joined x there in let j = h.holds in locked_tied (first_values hd) x (see h.sent w) j.begun j.alike
      (λ f apart a. let z = j.seen f (a.0, (a.1, apart)) in (z.0, z.1, z.2)) j.requests

  -- the journal is tied to the lock machines
  pub lock_tied : AreLockTied hd w.lines
  lock_tied = record { called = λ x called. tied_at x (object_some hd x (kept_call_objects hd w keeping x called)); listed = tied_at }

  abbrev pub held_in : Held hd w
  held_in x there = let h = joined x there in record {
    sent = h.sent;
    stands = h.stands;
    holds = (let j = h.holds in record { ordered = j.ordered; includers = j.includers; lights = j.lights });
  }

  pub decides_in : Decides hd w held_in
  decides_in x there =
      let j = (let h = joined x there in h.holds) in
      (j.wrote, j.bare)

  pub serial_so : IsSerialBy hd w.lines
  serial_so = locked_serial hd w (kept_right hd w keeping)
      (λ x called. let h = joined x (object_some hd x (kept_call_objects hd w keeping x called)) in let j = h.holds in record {
        sent = h.sent;
        stands = h.stands;
        holds = (j.begun, j.alike, (λ f apart a. let z = j.seen f (a.0, (a.1, apart)) in (z.0, z.1, z.2)), j.requests);
      })

  pub clean_so : HeaderFits hd → (disks : Disks) → DisksAre (see [] w) disks → CleanFrom hd w.start.marks w.lines disks
  clean_so form disks are =
      let r = kept_holds hd w keeping IsKept (lines_keep hd) in
      readings_clean hd w.lines (see r.sent w) disks
      (λ x there. let c = clean_of hd w keeping form lock_tied held_in decides_in x there in record { names = c.names; stores = c.stores })
      (readings_show_pairs hd r.sent w disks form r.stands (includes_there hd w keeping) are)

-- ---- in each world that is reached, where answered operations are in form

pub reached_both : (hd : Header) → HeaderFits hd → (w : World) → IsReached hd w → ((x : ℕ) → OpsFit x w.lines) → AreJoined hd w
reached_both hd form w reached fit x there = reached_joined hd x form there w reached (fit x)

pub reached_tied : (hd : Header) → HeaderFits hd → (w : World) → IsReached hd w → ((x : ℕ) → OpsFit x w.lines) →
    AreTied (first_values hd) w.lines
reached_tied hd form w reached fit = let t = lock_tied hd w reached.keeping (reached_both hd form w reached fit) in t.called

pub reached_serial : (hd : Header) → HeaderFits hd → (w : World) → IsReached hd w → ((x : ℕ) → OpsFit x w.lines) → IsSerialBy hd w.lines
reached_serial hd form w reached fit = serial_so hd w reached.keeping (reached_both hd form w reached fit)

pub reached_clean : (hd : Header) → HeaderFits hd → (w : World) → IsReached hd w → ((x : ℕ) → OpsFit x w.lines) → (disks : Disks) →
    DisksAre (see [] w) disks → CleanFrom hd w.start.marks w.lines disks
reached_clean hd form w reached fit = clean_so hd w reached.keeping (reached_both hd form w reached fit) form

-- ---- runs

pub runs_are_clean : RunsAreClean
runs_are_clean hd r disks f are = let h = runs_in_form hd r f in
    subst (λ (st : Start). CleanFrom hd st.marks (journal_by hd r) disks) (start_stays hd r)
    (reached_clean hd f.header (world_by hd r) h.0 h.1 disks are)

pub joined_runs_are_serial : JoinedRunsAreSerial
joined_runs_are_serial hd r f = let h = runs_in_form hd r f in reached_serial hd f.header (world_by hd r) h.0 h.1

pub joined_runs_are_tied : JoinedRunsAreTied
joined_runs_are_tied hd r f = let h = runs_in_form hd r f in reached_tied hd f.header (world_by hd r) h.0 h.1
