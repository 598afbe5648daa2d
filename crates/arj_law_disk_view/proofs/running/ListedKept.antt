-- What naming's answers claim of the entry's stores is kept beside the machine's state, with what is kept there.
use Rattle.arj_law_parts.proofs.Words
use Words.{◌≡◌, ◌<◌, ◌+◌, ◌==◌, ℕ, true, List, Option, Some, None, refl, sym, ap, subst, arith, is_some, Header, again_all, begin_action}
use Words.{Disk, Effect, tick_outs, Naming, Parts, with_coord, at_number, Node, acts, parent_of, parts_in, restart_outs}
use Words.{Seen, is_serial}
use Rattle.arj_law_disk_view.proofs.Terms
use Terms.{World, Office, at, given, said, up, Up, Walks, halted, walks_both, walks_to, KnowsFew, KnowsNode, KnowsKinds, IsLater, Kinds}
use Terms.{SeesBoth, Change, Quietly, change_by, AreAnswered, RecordsKnown, Tests, Left, AreGoodCounted, HaveEntries, IsInStep}
use Terms.{KnowsEntries, AnswersList, PassesLists, TellsLists, Going, HasHeard, HoldsAgain, HoldsFrom, KeepsPart, are_recorded, going_of}
use Rattle.arj_law_disk_view.proofs.{running.Bindings.names_own, running.EntryWalks.mine_of, view.Frames.node_here}
use Rattle.arj_law_disk_view.proofs.running.ListedSteps.{down_before, listed_again, listed_walk, same_passes, still_current}
use Rattle.arj_law_lock_view.proofs.records
use records.{NamingWalks.quiet_left, NamingWalks.same_goes}
use records.NamingKept.{act_left, message_left, tick_left}
use Rattle.arj_law_runs.specs.calls.Lived.{HasGiven}

-- with what is kept beside the machine's state
abbrev pub WithLists : ℕ → (Kinds → Office → Seen → Type 0) → Kinds → Office → Seen → Type 0
WithLists x P tops A M = P tops A M × AnswersList x tops A M

-- both hold along a walk
both_along : (P Q : Kinds → Office → Seen → Type 0) (tops : Kinds) (C : (Kinds → Office → Seen → Type 0) → Seen → Type 0) →
    ((N : Seen) → C P N → C Q N → C (λ o B Z. P o B Z × Q o B Z) N) → (e k : ℕ) (outs : List Effect) (v : Parts) (d : Disk) (N : Seen)
    → Walks (C P) e k outs (Up (C P) k v) d N → Walks (C Q) e k outs (Up (C Q) k v) d N →
    Walks (C (λ o B Z. P o B Z × Q o B Z)) e k outs (Up (C (λ o B Z. P o B Z × Q o B Z)) k v) d N
both_along P Q tops C join e k outs v d N a b = walks_to (λ Z. C P Z × C Q Z) (C (λ o B Z. P o B Z × Q o B Z)) e k outs (λ c Z. Up (C P) k v
    c Z × Up (C Q) k v c Z) (Up (C (λ o B Z. P o B Z × Q o B Z)) k v) d N (λ Z h. join Z h.0 h.1) (λ c Z h. join (up k c v Z) h.0 h.1)
    (walks_both (C P) (C Q) e k outs (Up (C P) k v) (Up (C Q) k v) d N a b)

-- where this holds besides nodes are good, bindings are counted, and naming has the object, while few bindings were made
module _ (hd : Header) (x : ℕ) (R S : World → Seen → Type 0) (weaker : (W : World) (M : Seen) → S W M →
    R W M) (known : (W : World) (M : Seen) → S W M → (AreGoodCounted M × HaveEntries x M) × KnowsFew M) (P : Kinds → Office → Seen →
    Type 0) (parts : KeepsPart hd x R P) where
  abbrev Q : Kinds → Office → Seen → Type 0
  Q tops A M = AnswersList x tops A M

  module _ (k : ℕ) (d : Disk) (t : Parts) (M : Seen) (W : World) (r : S W (up k d t M)) where
    abbrev Here : Node
    Here = record { number = k; disk = d; live = Some t }

    its : RecordsKnown (up k d t M)
    its = let w = known W (up k d t M) r in (let s = w.0.0.0.1 in s.1 (let f = w.1 in f.0)).1

    few : KnowsFew (up k d t M)
    few = (known W (up k d t M) r).1

    here : (n : Naming) → t.naming ≡ Some n → k ≡ 1
    here n named = let l = few.1.0.1 in let g : HasGiven few.1.0.0 k Here = l.places k Here (node_here M k Here) in
        (g.naming t n refl named).0

    there : (n : Naming) → t.naming ≡ Some n → is_some (at_number x n.objects) ≡ true
    there n named = let e = mine_of x k d (Some t) M (known W (up k d t M) r).0.1 (ap (λ z. 1 == z) (here n named)) in
        let s : IsInStep x n d.names = subst (λ o. KnowsEntries x o d.names) named (e.live t refl) in s.there

    short : (n : Naming) → t.naming ≡ Some n → n.count < 4294967296
    short n named = let w = known W (up k d t M) r in let o = names_own (up k d t M) w.0.0 w.1 k Here t n (node_here M k Here) refl named in
        less n.count o.next
      where
        less : (a : ℕ) → a + 1 < 4294967296 → a < 4294967296
        less a lt = omega (arith, lt)

    lists_along : (tops : Kinds) → KnowsKinds tops → (o : Change) (A : Office) → SeesBoth x tops A (up k d t M) → Q tops A (up k d t M) →
        (e : ℕ) (v : Parts) (outs : List Effect) → Left M.sent k d t v outs → (L : Seen) → L.nodes ≡ M.nodes → L.sent ≡ M.sent
        → Walks (HoldsFrom Q x tops o A) e k outs (Up (HoldsFrom Q x tops o A) k v) d L
    lists_along tops kinds o A both answers e v outs left L nodes sent =
        listed_walk x tops k d t M A both here there short kinds o e v outs left answers L nodes sent

  -- in an office that answers were taken in
  abbrev heard : (tops : Kinds) (o : Change) (A : Office) (g : Going) (M : Seen) → (KnowsNode tops g.node g.disk g.before M) →
      S A.world (up g.node g.disk g.before M) → Q tops A (up g.node g.disk g.before M) → Left M.sent g.node g.disk g.before g.after g.outs →
      HasHeard P x tops o A (g, M) → HasHeard (WithLists x P) x tops o A (g, M)
  heard tops o A g M knows r answers left h = record {
    office = h.office;
    only = h.only;
    both = h.both;
    along = both_along P Q tops (λ S N. HoldsFrom S x tops o h.office N) (λ N a b B c s. (a B c s, b B c s)) g.event g.node g.outs g.after
        g.disk M h.along
        (lists_along g.node g.disk g.before M A.world r tops knows.kinds o h.office h.both
        (subst (λ (W : World). (T : Tests) → TellsLists T → PassesLists x tops W.disk T (up g.node g.disk g.before M) →
        AreAnswered T M.sent) (sym (let z = h.only in z.world)) answers) g.event g.after g.outs left M refl refl);
  }

  pub listed_part : KeepsPart hd x S (WithLists x P)
  listed_part = record {
    quiet = λ tops e bs M A walk quiet r both (part, answers) B changed then. (
      parts.quiet tops e bs M A walk quiet (weaker A.world _ r) both part B changed then,
      λ T tells passes. answers T tells (λ n at_n. same_passes x tops A B T
          (still_current x tops A B M (said e bs M) both then (let l = changed in l.later)) n.disk n.live (passes n at_n)),
    );
    stop = λ tops e k d live M A walk r both (part, answers) B changed then. (
      parts.stop tops e k d live M A walk (weaker A.world _ r) both part B changed then,
      stopped tops e k d live M A r both answers B (let l = changed in l.later) then,
    );
    message = λ tops e k d t v from m outs M A walk n r sent meant is of owned both (part, answers).
        let p = parts.message tops e k d t v from m outs M A walk n (weaker A.world _ r) sent meant is of owned both part in
        let w = its k d t M A.world r in
        let f = few k d t M A.world r in (
          heard tops (change_by x d t m) A (record { event = e; node = k; disk = d; before = t; outs = outs; after = v }) M n r answers
              (message_left e k d t M w.0.0.0 w.0.0.1 f w.0.1 w.1 v from m outs sent is) p.0,
          p.1,
          p.2,
        );
    act = λ tops e k d t i M A walk n r is free both (part, answers).
        let did = acts i d.intents t.coord in
        let p = parts.act tops e k d t i M A walk n (weaker A.world _ r) is free both part in
        let w = its k d t M A.world r in
        let f = few k d t M A.world r in
        (heard tops Quietly A (going_of e k d t did) M n r answers (act_left e k d t M w.0.0.0 w.0.0.1 f w.0.1 w.1 hd i is free) p.0, p.1);
    begin = λ tops e k d t l how parent M A walk n r new may free kind both (part, answers).
        let did = begin_action l how parent (parent_of parent t.coord) t.coord in
        both_along P Q tops (λ S N. HoldsFrom S x tops Quietly A N) (λ N a b B c s. (a B c s, b B c s)) e k did.outs (with_coord t did.part)
        d (given l (record { node = k; serial = is_serial how }) M)
        (parts.begin tops e k d t l how parent M A walk n (weaker A.world _ r) new may free kind both part)
        (lists_along k d t M A.world r tops n.kinds Quietly A both answers e (with_coord t did.part) did.outs
        (quiet_left M.sent k d t (with_coord t did.part) did.outs (same_goes t.naming) (tt, tt))
        (given l (record { node = k; serial = is_serial how }) M) refl refl);
    tick = λ tops e k d t M A walk n r both (part, answers).
        let w = its k d t M A.world r in
        let f = few k d t M A.world r in
        let outs = tick_outs (record { number = k; disk = d; live = Some t }) t in
        let v = with_coord t (again_all t.coord.doings t.coord).part in
        both_along P Q tops (λ S N. HoldsFrom S x tops Quietly A N) (λ N a b B c s. (a B c s, b B c s)) e k outs v d M
        (parts.tick tops e k d t M A walk n (weaker A.world _ r) both part)
        (lists_along k d t M A.world r tops n.kinds Quietly A both answers e v outs (tick_left e k d t M w.0.0.0 w.0.0.1 f w.0.1 w.1) M refl
        refl);
    restart = λ tops e k d M A walk r both (part, answers).
        both_along P Q tops (λ S N. HoldsAgain S x tops (are_recorded d.intents) A N) (λ N a b B c s. (a B c s, b B c s)) e k (restart_outs
        hd k (d.inc + 1) d) (parts_in k (d.inc + 1) d) d M (parts.restart tops e k d M A walk (weaker A.world _ r) both part)
        (listed_again x tops hd e k d M A both (are_recorded d.intents) answers);
    first = λ tops walk kinds st formed.
        let f = parts.first tops walk kinds st formed in (f.0, f.1, (f.2, λ T tells passes. tt), f.3, f.4);
  }
    where
      stopped : (tops : Kinds) (e k : ℕ) (d : Disk) (live : Option Parts) (M : Seen) (A : Office) → S A.world (at k d live M) →
          SeesBoth x tops A (at k d live M) → Q tops A (at k d live M) → (B : Office) → IsLater A.world B.world →
          SeesBoth x tops B (halted e k d M) → Q tops B (halted e k d M)
      stopped tops e k d None M A r both answers B later then = λ T tells passes. answers T tells (λ n at_n. same_passes x tops A B T
          (still_current x tops A B (at k d None M) (halted e k d M) both then later) n.disk n.live (passes n at_n))
      stopped tops e k d (Some t) M A r both answers B later then = λ T tells passes. answers T tells (down_before x tops k d t M A both
          (here k d t M A.world r) (there k d t M A.world r) (short k d t M A.world r) e B d M then later refl (omega arith) T passes)
