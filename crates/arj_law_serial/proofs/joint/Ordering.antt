-- Each handler keeps the order in which tops are decided, and so it is after each run.
use Rattle.arj_law_parts.proofs.Words
use Words.{Start, world_from}
use Words.{◌≡◌, ℕ, ◌+◌, List, [], Bool, true, Some, None, refl, sym, subst, is_on, Body, Header, Kind, Label, Line, Uid, again_all}
use Words.{begin_action, Disk, Effect, tick_outs, Parts, with_coord, uid_number, acts, parent_of, parts_in, restart_outs}
use Words.{numbered, Seen, see, is_serial}
use Rattle.arj_law_serial.proofs.Terms
use Terms.{Office, Keeps, at, down, given, said, up, Up, Walks, halted, walks_both, walks_to, IsLater, Kinds, OnlyFound, SeesBoth, Change}
use Terms.{Changes, Deciding, Quietly, change_by, Going, HasHeard, KeepsPart, are_recorded, going_of, restart_plain, book, IsKept, AreDone}
use Terms.{KnowsIdle, IsNear, IsStep, near_same, nothing_more, step_halted, step_walk, goes_by, goes_along, AreCalled, AreOnce, NewTops}
use Terms.{quietly, who_decides, AreTurns, IsOrdered}
use Terms.Effects as machine
use Rattle.arj_law_disk_view.proofs.deciding_lines.Tying.{was_up}
use Rattle.arj_law_disk_view.proofs.running.Grows.{along_new, called_there, changes_new, found_there}
use Rattle.arj_law_serial.proofs.joint.Turns.{IdleThere, ordered_step}

-- ---- each handler

module _ (hd : Header) (x : ℕ) (R : Seen → Type 0) (G : machine.World → Seen → Type 0) (P : Kinds → Office → Seen → Type 0) (Idle : List
    Line → Uid → Type 0) (kept : Keeps hd R) (known : (M : Seen) → R M → IsKept M) (idles : KnowsIdle R Idle) (parts : KeepsPart hd x
    (λ W M. R M × G W M) P) (ties : (tops : Kinds) (A : Office) (M : Seen) → P tops A M → AreDone Idle A.world M) where
  abbrev pub WithOrder : Kinds → Office → Seen → Type 0
  WithOrder tops A M = P tops A M × IsOrdered (IdleThere Idle) A.world M

  abbrev From : Kinds → (Office → Type 0) → (Kinds → Office → Seen → Type 0) → Seen → Type 0
  From tops C Q Z = (B : Office) → C B → SeesBoth x tops B Z → Q tops B Z

  -- what a step comes to, from there
  abbrev Comes : Office → Seen → (Office → Type 0) → Type 0
  Comes A M C = (B : Office) → C B → IsLater A.world B.world × NewTops A.world B.world M.lines

  goes_to_next : (tops : Kinds) (C : Office → Type 0) (A : Office) (M : Seen) → Comes A M C → AreDone Idle A.world M →
      IsOrdered (IdleThere Idle) A.world M → (Z : Seen) → From tops C P Z → R Z → IsStep M Z → From tops C WithOrder Z
  goes_to_next tops C A M comes done order Z part r step B c seen = let g = comes B c in (
    part B c seen,
    ordered_step R Idle idles A.world B.world M Z step.more step.lines g.0 (let s = seen.disks in s.whole) r (known Z r) done g.1 order,
  )

  along : (tops : Kinds) (C : Office → Type 0) (A : Office) (M : Seen) → Comes A M C → AreDone Idle A.world M →
      IsOrdered (IdleThere Idle) A.world M → (e k : ℕ) (outs : List Effect) (v : Parts) (d : Disk) (N : Seen)
      → Walks (From tops C P) e k outs (Up (From tops C P) k v) d N → Walks R e k outs (Up R k v) d N →
      Walks (IsStep M) e k outs (Up (IsStep M) k v) d N → Walks (From tops C WithOrder) e k outs (Up (From tops C WithOrder) k v) d N
  along tops C A M comes done order e k outs v d N w fresh steps =
      let two = walks_both R (IsStep M) e k outs (Up R k v) (Up (IsStep M) k v) d N fresh steps in
      let three = walks_both (From tops C P) (λ Z. R Z × IsStep M Z) e k outs (Up (From tops C P) k v)
      (λ c Z. Up R k v c Z × Up (IsStep M) k v c Z) d N w two in
      walks_to (λ Z. From tops C P Z × (R Z × IsStep M Z)) (From tops C WithOrder) e k outs
      (λ c Z. Up (From tops C P) k v c Z × (Up R k v c Z × Up (IsStep M) k v c Z)) (Up (From tops C WithOrder) k v) d N
      (λ Z h. goes_to_next tops C A M comes done order Z h.0 h.1.0 h.1.1)
      (λ c Z h. goes_to_next tops C A M comes done order (up k c v Z) h.0 h.1.0 h.1.1) three

  -- by the changes of a step
  comes_by : (o : Change) (A : Office) (M : Seen) → machine.Whole A.world → ((z : ℕ) (keeps : Bool) → o ≡ Deciding z keeps → (u : Uid) →
      uid_number u ≡ z → is_on (book M.lines).called u ≡ true) → Comes A M (Changes o A)
  comes_by o A M whole called B c = ((goes_by o A B whole c).1, changes_new o M.lines A B called c)

  abbrev heard : (tops : Kinds) (o : Change) (A : Office) (g : Going) (M : Seen) → machine.Whole A.world → ((z : ℕ) (keeps : Bool) →
      o ≡ Deciding z keeps → (u : Uid) → uid_number u ≡ z → is_on (book M.lines).called u ≡ true) → AreDone Idle A.world
      (up g.node g.disk g.before M) → IsOrdered (IdleThere Idle) A.world (up g.node g.disk g.before M) → HasHeard P x tops o A (g, M)
      → Walks R g.event g.node g.outs (Up R g.node g.after) g.disk M → Walks (IsStep (up g.node g.disk g.before M)) g.event g.node g.outs
      (Up (IsStep (up g.node g.disk g.before M)) g.node g.after) g.disk M → HasHeard WithOrder x tops o A (g, M)
  heard tops o A g M whole called done order h fresh steps =
      let same = (let z = h.only in sym z.world) in
      record {
        office = h.office;
        only = h.only;
        both = h.both;
        along = along tops (Changes o h.office) h.office (up g.node g.disk g.before M) (comes_by o h.office (up g.node g.disk g.before M)
            (subst machine.Whole same whole) called) (subst (λ W. AreDone Idle W (up g.node g.disk g.before M)) same done)
            (subst (λ W. IsOrdered (IdleThere Idle) W (up g.node g.disk g.before M)) same order) g.event g.node g.outs g.after g.disk M
            h.along fresh steps;
      }

  pub ordered_part : KeepsPart hd x (λ W M. R M × G W M) WithOrder
  ordered_part = record {
    quiet = λ tops e bs M A walk quiet r both (part, order) B changed seen.
        goes_to_next tops (Changes Quietly A) A M (comes_by Quietly A M (let z = both.disks in z.whole) (λ z keeps is. quietly z keeps is))
        (ties tops A M part) order (said e bs M) (parts.quiet tops e bs M A walk quiet r both part) (kept.quiet e bs M quiet r.0)
        (quiet_step e bs M) B changed seen;
    stop = λ tops e k d live M A walk r both (part, order) B changed seen.
        goes_to_next tops (Changes Quietly A) A (at k d live M) (comes_by Quietly A (at k d live M) (let z = both.disks in z.whole)
        (λ z keeps is. quietly z keeps is)) (ties tops A (at k d live M) part) order (halted e k d M) (parts.stop tops e k d live M A
        walk r both part) (kept.stop e k d live M r.0) (step_halted k d live M e d M (near_same M) (λ down. refl)) B changed seen;
    message = λ tops e k d t v from m outs M A walk n r sent meant is of owned both (part, order).
        let p = parts.message tops e k d t v from m outs M A walk n r sent meant is of owned both part in (
          heard tops (change_by x d t m) A (record { event = e; node = k; disk = d; before = t; outs = outs; after = v }) M
              (let z = both.disks in z.whole)
              (λ z keeps by u uz. called_there tops k d t M n (known (up k d t M) r.0) z (who_decides x d t m z keeps by) u uz)
              (ties tops A (up k d t M) part) order p.0
              (kept.message e k d t v from m outs M r.0 sent meant is)
              (step_walk k d (Some t) M e v outs d M (near_same M) (was_up t) (was_up t)),
          p.1,
          p.2,
        );
    act = λ tops e k d t i M A walk n r is free both (part, order).
        let did = acts i d.intents t.coord in
        let p = parts.act tops e k d t i M A walk n r is free both part in (
          heard tops Quietly A (going_of e k d t did) M (let z = both.disks in
              z.whole) (λ z keeps by. quietly z keeps by) (ties tops A (up k d t M) part) order p.0
              (kept.act e k d t i M is free r.0)
              (step_walk k d (Some t) M e (with_coord t did.part) did.outs d M (near_same M) (was_up t) (was_up t)),
          p.1,
        );
    begin = λ tops e k d t l how parent M A walk n r new may free kind both (part, order).
        let did = begin_action l how parent (parent_of parent t.coord) t.coord in
        let N : Seen = given l (record { node = k; serial = is_serial how }) M in
        along tops (Changes Quietly A) A (up k d t M) (comes_by Quietly A (up k d t M) (let z = both.disks in
        z.whole) (λ z keeps by. quietly z keeps by)) (ties tops A (up k d t M) part) order e k did.outs (with_coord t did.part) d N
        (parts.begin tops e k d t l how parent M A walk n r new may free kind both part) (kept.begin e k d t l how parent M new may free
        r.0) (step_walk k d (Some t) M e (with_coord t did.part) did.outs d N (given_near l how k M) (was_up t) (was_up t));
    tick = λ tops e k d t M A walk n r both (part, order).
        let outs = tick_outs (record { number = k; disk = d; live = Some t }) t in
        let v = with_coord t (again_all t.coord.doings t.coord).part in
        along tops (Changes Quietly A) A (up k d t M) (comes_by Quietly A (up k d t M) (let z = both.disks in
        z.whole) (λ z keeps by. quietly z keeps by)) (ties tops A (up k d t M) part) order e k outs v d M
        (parts.tick tops e k d t M A walk n r both part) (kept.tick e k d t M r.0)
        (step_walk k d (Some t) M e v outs d M (near_same M) (was_up t) (was_up t));
    restart = λ tops e k d M A walk r both (part, order).
        let outs = restart_outs hd k (d.inc + 1) d in
        let v = parts_in k (d.inc + 1) d in
        along tops (OnlyFound (are_recorded d.intents) A) A (down k d M)
        (λ B c. (
          (goes_along (are_recorded d.intents) A.world B.world (let z = both.disks in z.whole) c.along).1,
          along_new (are_recorded d.intents) M.lines A.world B.world (λ z on u uz. found_there k d M (known (down k d M) r.0) z on u uz)
              c.along,
        ))
        (ties tops A (down k d M) part) order e k outs v d M (parts.restart tops e k d M A walk r both part) (kept.restart e k d M r.0)
        (step_walk k d None M e v outs d M (near_same M) (λ down. restart_plain [] hd k d) (λ down. refl));
    first = λ tops walk kinds st formed.
        let f = parts.first tops walk kinds st formed in (f.0, f.1, (f.2, nothing_yet st f.0 f.3), f.3, f.4);
  }
    where
      quiet_step : (e : ℕ) (bs : List Body) (M : Seen) → IsStep M (said e bs M)
      quiet_step e bs M = record { more = numbered e bs; lines = refl; nodes = λ j n is. (n, is, λ down. refl) }

      given_near : (l : Label) (how : Kind) (k : ℕ) (M : Seen) → IsNear M (given l (record { node = k; serial = is_serial how }) M)
      given_near l how k M = record { more = []; lines = nothing_more M.lines; nodes = λ j. refl }

      nothing_yet : (st : Start) (A : Office) → A.world.disk.tops ≡ [] → IsOrdered (IdleThere Idle) A.world (see [] (world_from hd st))
      nothing_yet st A none = record {
        once = subst AreOnce (sym none) tt;
        called = subst (AreCalled []) (sym none) (λ d i. absurd i);
        turns = subst (AreTurns (IdleThere Idle) []) (sym none) tt;
      }
