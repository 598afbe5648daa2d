-- What coordinators have of naming's answers is kept, and of what is decided, where what naming counts on is given.
use Rattle.arj_law_parts.proofs.Words
use Words.{Start, world_from, ◌<◌, ◌≡◌, ◌==◌, ◌+◌, ℕ, Bool, true, List, [], ◌∷◌, ◌++◌, Some, refl, sym, ap, subst, ◌∙◌, is_on}
use Words.{Header, Line, Uid, uid_number}
use Words.{again_all, begin_action, Disk, Effect, tick_outs, Parts, with_coord, Node, acts, parent_of, parts_in, restart_outs}
use Words.{numbered, Seen, see, is_serial, most_labels}
use Words.body
use Rattle.arj_law_disk_view.proofs.Terms
use Terms.{Whole, World, Office, at, down, given, said, up, walks_both, walks_to, book, IsKept, Up, Walks, halted, HasObject, IsLater}
use Terms.{Kinds, OnlyFound, SeesBoth, Answering, Change, Changes, Deciding, Quietly, change_by, IsGood, RecordsAreFree, AllKnowTops}
use Terms.{AllNameOwn, HasFewLabels, AreOnce, NewTops, SeesDecided, SeesHeard, Going, HasHeard, KeepsPart, are_recorded, going_of}
use Terms.{GivesNaming, IsHeardAt, KnowsFew, Packed}
use Terms.words as disk
use Rattle.arj_law_disk_view.proofs.running
use running.{Decisions.goes_along, HeardFirst.heard_first, HeardInputs.heard_starts, HeardMessage.heard_message, HeardRestart.heard_restart}
use running.{HeardTick.heard_begin, HeardTick.heard_tick}
use running.FewDecided.{HasMore, decided_on, more_walk}
use running.Grows.{along_new, called_there, changes_new, found_there, quietly, who_decides}
use running.HeardQuiet.{fixed_in, heard_quiet, heard_stop}
use Rattle.arj_law_disk_view.proofs.view.Frames.{node_here}
use Rattle.arj_law_disk_view.specs.running.{Decided.IsPastNumber, Decided.most_version, Rest.SeesCarried}

-- a step's changes lead to a later state
pub later_by : (o : Change) (A B : Office) → Whole A.world → Changes o A B → IsLater A.world B.world
later_by Quietly A B whole c = c.later
later_by (Answering t r) A B whole c = let o = c.0 in o.later
later_by (Deciding t keeps) A B whole c = (goes_along (λ z. z == t) A.world B.world whole c.along).1

-- what is walked, for each state that the machine may have come to
module _ (x : ℕ) (tops : Kinds) where
  abbrev pub From : (Office → Type 0) → (Office → Seen → Type 0) → Seen → Type 0
  From C Q Z = (B : Office) → C B → SeesBoth x tops B Z → Q B Z

  pub both_from : (C : Office → Type 0) (P Q : Office → Seen → Type 0) (e k : ℕ) (outs : List Effect) (v : Parts) (d : Disk) (N : Seen) →
      Walks (From C P) e k outs (Up (From C P) k v) d N → Walks (From C Q) e k outs (Up (From C Q) k v) d N
      → Walks (From C (λ B Z. P B Z × Q B Z)) e k outs (Up (From C (λ B Z. P B Z × Q B Z)) k v) d N
  both_from C P Q e k outs v d N a b = walks_to (λ Z. From C P Z × From C Q Z) (From C (λ B Z. P B Z × Q B Z)) e k outs
      (λ c Z. Up (From C P) k v c Z × Up (From C Q) k v c Z) (Up (From C (λ B Z. P B Z × Q B Z)) k v) d N
      (λ Z h B c s. (h.0 B c s, h.1 B c s)) (λ c Z h B changed s. (h.0 B changed s, h.1 B changed s))
      (walks_both (From C P) (From C Q) e k outs (Up (From C P) k v) (Up (From C Q) k v) d N a b)

-- nothing is decided yet
first_decided : (hd : Header) (st : Start) (x : ℕ) (tops : Kinds) (A : Office) → A.world.disk.tops ≡ [] →
    A.world.disk.first.writer ≡ uid_number (let m = st.marks.states x in m.writer) →
    A.world.disk.first.version + most_labels < most_version →
    ((g : Packed) → disk.In g (A.world.disk.first ∷ A.world.disk.past) → IsPastNumber st g.writer) →
    SeesDecided x tops A (see [] (world_from hd st))
first_decided hd st x tops A none writer short past = record {
  writer = writer;
  short = short;
  past = past;
  once = subst AreOnce (sym none) tt;
  called = λ d i. absurd (subst (λ ds. disk.In d ds) none i);
}

none_more : (ls : List Line) → ls ++ [] ≡ ls
none_more [] = refl
none_more (l ∷ ls) = ap (λ ks. l ∷ ks) (none_more ls)

-- along a step, for each state that the machine may come to
decided_from : (x : ℕ) (tops : Kinds) (C : Office → Type 0) (A : Office) (M : Seen) → SeesDecided x tops A M → ((B : Office) → C B → IsLater
    A.world B.world × NewTops A.world B.world M.lines) → (e k : ℕ) (outs : List Effect) (v : Parts) (d : Disk) (N : Seen) → HasMore M N
    → Walks (From x tops C (λ B Z. SeesDecided x tops B Z)) e k outs (Up (From x tops C (λ B Z. SeesDecided x tops B Z)) k v) d N
decided_from x tops C A M its new e k outs v d N more = walks_to (HasMore M) (From x tops C (λ B Z. SeesDecided x tops B Z)) e k outs
    (Up (HasMore M) k v) (Up (From x tops C (λ B Z. SeesDecided x tops B Z)) k v) d N
    (λ Z m B c s. let n = new B c in decided_on x tops A B M Z its n.0 n.1 m) (λ c Z m B changed s. let n = new B changed in
    decided_on x tops A B M (up k c v Z) its n.0 n.1 m) (more_walk M e k outs v d N more)

module _ (x : ℕ) (tops : Kinds) where
  -- beside what coordinators have
  abbrev heard_too : (o : Change) (A : Office) (g : Going) (M : Seen) (h : HasHeard (SeesHeard x) x tops o A (g, M)) →
      Walks (From x tops (Changes o h.office) (λ B Z. SeesDecided x tops B Z)) g.event g.node g.outs (Up
      (From x tops (Changes o h.office) (λ B Z. SeesDecided x tops B Z)) g.node g.after) g.disk M →
      HasHeard (SeesCarried x) x tops o A (g, M)
  heard_too o A g M h walk = record {
    office = h.office;
    only = h.only;
    both = h.both;
    along = both_from x tops (Changes o h.office) (λ B Z. SeesHeard x tops B Z)
        (λ B Z. SeesDecided x tops B Z) g.event g.node g.outs g.after
        g.disk M h.along walk;
  }

  -- what a step decides, for each state that its changes lead to
  goes : (k : ℕ) (d : Disk) (M : Seen) (A : Office) (t : Parts) → SeesDecided x tops A (up k d t M) → (o : Change) (C : Office) →
      C.world ≡ A.world → SeesBoth x tops C (up k d t M) → (e : ℕ) (outs : List Effect) (v : Parts) (L : Seen) → ((z : ℕ) (keeps : Bool) →
      o ≡ Deciding z keeps → (u : Uid) → uid_number u ≡ z → is_on (book M.lines).called u ≡ true) → L.lines ≡ M.lines → L.start ≡ M.start
      → Walks (From x tops (Changes o C) (λ B Z. SeesDecided x tops B Z)) e k outs
      (Up (From x tops (Changes o C) (λ B Z. SeesDecided x tops B Z)) k v) d L
  goes k d M A t has o C same seen e outs v L called lines start = decided_from x tops (Changes o C) A (up k d t M) has
      (λ B c. (on B c, subst (λ (W : World). NewTops W B.world M.lines) same (changes_new o M.lines C B called c))) e k outs v d L
      (([], lines ∙ sym (none_more M.lines)), start)
    where
      on : (B : Office) → Changes o C B → IsLater A.world B.world
      on B c = subst (λ (W : World). IsLater W B.world) same (later_by o C B (let s = seen.disks in s.whole) c)

-- where this holds nodes are good and know their tops, and naming's bindings are its own
pub heard_kept : (hd : Header) (x : ℕ) (R : World → Seen → Type 0) → ((W : World) (M : Seen) → R W M → IsGood M × KnowsFew M) →
    ((W : World) (M : Seen) → R W M → AllNameOwn M × AllKnowTops M × RecordsAreFree M × IsKept M × HasFewLabels M) → HasObject hd x →
    GivesNaming x R → KeepsPart hd x R (SeesCarried x)
heard_kept hd x R good knows_more has gives = record {
  quiet = λ tops e bs M A walk quiet r both p B only now. (
    heard_quiet x tops e bs M A B (fixed_in x tops A M both) (let s = now.disks in s.fixed) both.named now.named only p.0,
    decided_on x tops A B M (said e bs M) p.1 only.later (changes_new Quietly M.lines A B (λ z keeps is. quietly z keeps is) only)
        ((numbered e bs, refl), refl),
  );
  stop = λ tops e k d live M A walk r both p B only now. (
    heard_stop x tops e k d live M A B (let s = both.disks in s.fixed) (let s = now.disks in s.fixed) both.named now.named only p.0,
    decided_on x tops A B (at k d live M) (halted e k d M) p.1 only.later
        (changes_new Quietly M.lines A B (λ z keeps is. quietly z keeps is) only) ((numbered e (body.Halted k ∷ []), refl), refl),
  );
  message = λ tops e k d t v from m outs M A walk knows r sent meant is of owned both p.
      let at : IsHeardAt x R tops A (k, d, t) M =
      record { unwalked = walk; knows = knows; run = r; both = both; heard = p.0; decided = p.1 } in
      let h = heard_message x R good gives tops e k d t v from m outs M A of at
      (λ n named. (knows_more _ _ r).0 k (record { number = k; disk = d; live = Some t }) t n
      (node_here M k (record { number = k; disk = d; live = Some t })) refl named)
      (let w = knows_more _ _ r in w.2) (let tops = (knows_more _ _ r).1 k (record { number = k; disk = d; live = Some t }) t
      (node_here M k (record { number = k; disk = d; live = Some t })) refl in tops.uses) sent owned meant is in
      let o = h.0 in (
        heard_too x tops (change_by x d t m) A (record { event = e; node = k; disk = d; before = t; outs = outs; after = v }) M o
            (goes x tops k d M A t p.1 (change_by x d t m) o.office (let z = o.only in z.world) o.both e outs v M
            (λ z keeps by u uz. called_there tops k d t M knows (knows_more _ _ r).3 z (who_decides x d t m z keeps by) u uz) refl refl),
        h.1,
        h.2,
      );
  act = λ tops e k d t i M A walk knows r is free both p.
      let h = heard_starts x tops e k d t M A (good _ _ r).0 (good _ _ r).1 knows both p.0 hd i is free in
      let o = h.0 in
      let did = acts i d.intents t.coord in (
        heard_too x tops Quietly A (going_of e k d t did) M o (goes x tops k d M A t p.1 Quietly o.office (let y = o.only in
            y.world) o.both e did.outs (with_coord t did.part) M (λ z keeps is. quietly z keeps is) refl refl),
        h.1,
      );
  begin = λ tops e k d t l how parent M A walk knows r new may free kind both p.
      let did = begin_action l how parent (parent_of parent t.coord) t.coord in
      both_from x tops (Changes Quietly A) (λ B Z. SeesHeard x tops B Z)
      (λ B Z. SeesDecided x tops B Z) e k did.outs (with_coord t did.part)
      d (given l (record { node = k; serial = is_serial how }) M) (heard_begin x tops e k d t l how parent M A both p.0)
      (goes x tops k d M A t p.1 Quietly A refl both e did.outs (with_coord t did.part)
      (given l (record { node = k; serial = is_serial how }) M) (λ z keeps is. quietly z keeps is) refl refl);
  tick = λ tops e k d t M A walk knows r both p.
      let n : Node = record { number = k; disk = d; live = Some t } in
      let v = with_coord t (again_all t.coord.doings t.coord).part in
      both_from x tops (Changes Quietly A) (λ B Z. SeesHeard x tops B Z) (λ B Z. SeesDecided x tops B Z) e k (tick_outs n t) v d M
      (heard_tick x tops e k d t M A knows both p.0)
      (goes x tops k d M A t p.1 Quietly A refl both e (tick_outs n t) v M (λ z keeps is. quietly z keeps is) refl refl);
  restart = λ tops e k d M A walk r both p.
      let outs = restart_outs hd k (d.inc + 1) d in
      let v = parts_in k (d.inc + 1) d in
      let C = OnlyFound (are_recorded d.intents) A in
      both_from x tops C (λ B Z. SeesHeard x tops B Z) (λ B Z. SeesDecided x tops B Z) e k outs v d M
      (heard_restart x tops k d M A (good _ _ r).0 both p.0 hd e)
      (decided_from x tops C A (down k d M) p.1 (λ B c. (
        (goes_along (are_recorded d.intents) A.world B.world (let s = both.disks in s.whole) c.along).1,
        along_new (are_recorded d.intents) M.lines A.world B.world (λ z on u uz. found_there k d M (knows_more _ _ r).3 z on u uz) c.along,
      )) e k outs v d M (([], sym (none_more M.lines)), refl));
  first = λ tops walk kinds st formed. let f = heard_first hd x tops has walk kinds st formed in
      (f.0, f.1, (f.2, first_decided hd st x tops f.0 f.3 f.4 f.5 f.6), f.3, f.7);
}
