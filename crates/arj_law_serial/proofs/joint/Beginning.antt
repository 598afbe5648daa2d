-- The machine's first state and entry are kept, and so they are those of the header after each run.
use Rattle.arj_law_parts.proofs.Words
use Words.{IsFormed, Start, node_by, world_from}
use Words.{◌≡◌, ℕ, ◌+◌, true, List, [], None, Some, refl, sym, ◌∙◌, subst, is_some, map, arith, ◌&&◌, nat_le, nat_tests, again_all}
use Words.{begin_action}
use Words.{Disk, Effect, tick_outs, Parts, with_coord, acts, numbers_to, parent_of, parts_in, restart_outs, at_place, Header}
use Words.{Seen, see, is_serial}
use Rattle.arj_law_serial.proofs.Terms
use Terms.{Marks}
use Terms.{HeaderFits, object_line, Office, given, Up, Walks, IsGood, all_keep as parts_good, IsLater, Kinds, OnlyFound}
use Terms.{SeesBoth, Change, Changes, Quietly, change_by, Going, HasHeard, KeepsPart, are_recorded, going_of, goes_by, goes_along, BeginsSo}
use Terms.Effects as machine
use Rattle.arj_law_parts.proofs.moves.Happens.{first_holds}
use Rattle.arj_law_serial.proofs.joint.{Firsts.begins_so, Firsts.line_there, Starting.walks_here}

-- with what is carried beside the machine's state
abbrev pub WithFirst : (hd : Header) (x : ℕ) → (Kinds → Office → Seen → Type 0) → Kinds → Office → Seen → Type 0
WithFirst hd x P tops A M = P tops A M × BeginsSo hd M.start.marks x (let W = A.world in W.disk)

-- the first state and entry stay
begins_later : (hd : Header) (marks : Marks) (x : ℕ) (W V : machine.World) → IsLater W V → BeginsSo hd marks x W.disk →
    BeginsSo hd marks x V.disk
begins_later hd marks x W V later b = record { state = later.first ∙ b.state; entry = later.first_entry ∙ b.entry }

module _ (hd : Header) (x : ℕ) (R : machine.World → Seen → Type 0) (P : Kinds → Office → Seen → Type 0) (parts : KeepsPart hd x R P) where
  abbrev From : Kinds → (Office → Type 0) → (Kinds → Office → Seen → Type 0) → Seen → Type 0
  From tops C Q Z = (B : Office) → C B → SeesBoth x tops B Z → Q tops B Z

  along : (tops : Kinds) (C : Office → Type 0) (e k : ℕ) (outs : List Effect) (v : Parts) (d : Disk) (N : Seen) →
      ((B : Office) → C B → BeginsSo hd N.start.marks x (let W = B.world in W.disk)) →
      Walks (From tops C P) e k outs (Up (From tops C P) k v)
      d N → Walks (From tops C (WithFirst hd x P)) e k outs (Up (From tops C (WithFirst hd x P)) k v) d N
  along tops C e k outs v d N begun w = walks_here (From tops C P) (From tops C (WithFirst hd x P)) N.start (λ Z same h B c s.
      (h B c s, subst (λ (st : Start). BeginsSo hd st.marks x (let W = B.world in W.disk)) (sym same) (begun B c))) e k outs v d N refl w

  begins_by : (o : Change) (tops : Kinds) (A B : Office) (M : Seen) → SeesBoth x tops A M →
      BeginsSo hd M.start.marks x (let W = A.world in W.disk) → Changes o A B → BeginsSo hd M.start.marks x (let W = B.world in W.disk)
  begins_by o tops A B M both b changed = begins_later hd M.start.marks x A.world B.world (goes_by o A B
      (let d = both.disks in d.whole) changed).1 b

  abbrev heard : (tops : Kinds) (o : Change) (A : Office) (g : Going) (M : Seen) →
      BeginsSo hd M.start.marks x (let W = A.world in W.disk) → HasHeard P x tops o A (g, M) → HasHeard (WithFirst hd x P) x tops o A (g, M)
  heard tops o A g M b h = record {
    office = h.office;
    only = h.only;
    both = h.both;
    along = along tops (Changes o h.office) g.event g.node g.outs g.after g.disk M (λ B c. begins_by o tops h.office B _ h.both (subst
        (λ (W : machine.World). BeginsSo hd M.start.marks x W.disk) (sym (let z = h.only in z.world)) b) c) h.along;
  }

  pub first_part : ((st : Start) → IsFormed hd st → (tops : Kinds) (A : Office) → tops.walk ≡ None →
      SeesBoth x tops A (see [] (world_from hd st)) → (let W = A.world in let S = W.disk in S.tops) ≡ [] →
      BeginsSo hd st.marks x (let W = A.world in W.disk)) → KeepsPart hd x R (WithFirst hd x P)
  first_part first = record {
    quiet = λ tops e bs M A walk quiet r both (part, b) B changed seen.
        (parts.quiet tops e bs M A walk quiet r both part B changed seen, begins_by Quietly tops A B M both b changed);
    stop = λ tops e k d live M A walk r both (part, b) B changed seen.
        (parts.stop tops e k d live M A walk r both part B changed seen, begins_by Quietly tops A B _ both b changed);
    message = λ tops e k d t v from m outs M A walk n r sent meant is of owned both (part, b).
        let p = parts.message tops e k d t v from m outs M A walk n r sent meant is of owned both part in
        (heard tops (change_by x d t m) A (record { event = e; node = k; disk = d; before = t; outs = outs; after = v }) M b p.0, p.1, p.2);
    act = λ tops e k d t i M A walk n r is free both (part, b).
        let did = acts i d.intents t.coord in
        let p = parts.act tops e k d t i M A walk n r is free both part in
        (heard tops Quietly A (going_of e k d t did) M b p.0, p.1);
    begin = λ tops e k d t l how parent M A walk n r new may free kind both (part, b).
        let did = begin_action l how parent (parent_of parent t.coord) t.coord in
        along tops (Changes Quietly A) e k did.outs (with_coord t did.part) d (given l (record { node = k; serial = is_serial how }) M)
        (λ B c. begins_by Quietly tops A B _ both b c)
        (parts.begin tops e k d t l how parent M A walk n r new may free kind both part);
    tick = λ tops e k d t M A walk n r both (part, b).
        along tops (Changes Quietly A) e k (tick_outs (record { number = k; disk = d; live = Some t }) t)
        (with_coord t (again_all t.coord.doings t.coord).part) d M (λ B c. begins_by Quietly tops A B _ both b c)
        (parts.tick tops e k d t M A walk n r both part);
    restart = λ tops e k d M A walk r both (part, b).
        along tops (OnlyFound (are_recorded d.intents) A) e k (restart_outs hd k (d.inc + 1) d) (parts_in k (d.inc + 1) d) d M
        (λ B c. begins_later hd M.start.marks x A.world B.world
        (goes_along (are_recorded d.intents) A.world B.world (let z = both.disks in z.whole) c.along).1 b)
        (parts.restart tops e k d M A walk r both part);
    first = λ tops walk kinds st formed. let f = parts.first tops walk kinds st formed in
        (f.0, f.1, (f.2, first st formed tops f.0 walk f.1 f.3), f.3, f.4);
  }

-- ---- every run

-- as a run begins
pub first_begins : (hd : Header) (x : ℕ) → HeaderFits hd → is_some (object_line hd x) ≡ true → (st : Start) → IsFormed hd st →
    (tops : Kinds) (A : Office) → tops.walk ≡ None → SeesBoth x tops A (see [] (world_from hd st)) →
    (let W = A.world in let S = W.disk in S.tops) ≡ [] → BeginsSo hd st.marks x (let W = A.world in W.disk)
first_begins hd x form there st formed tops A walk both none =
    let has_it = line_there hd x form there in
    let s = (let o = has_it.0 in o.stored) in
    begins_so hd st formed x tops walk has_it.0 has_it.2 A.world both.disks none (places 1 one) s.0 s.1 (places s.0 has_it.1)
  where
    places : (k : ℕ) → (nat_le 1 k && nat_le k hd.nodes) ≡ true → is_some (at_place k (map (node_by hd st) (numbers_to hd.nodes))) ≡ true
    places k is = let h = first_holds hd st IsGood formed (parts_good hd) in let s = h.stands in s.places k is

    one : (nat_le 1 1 && nat_le 1 hd.nodes) ≡ true
    one = let n = (let f = form.nodes in f.0) in grind (arith, nat_tests, n)
