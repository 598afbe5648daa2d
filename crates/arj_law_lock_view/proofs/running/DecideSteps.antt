-- The decision of a top goes in the whole world: its record is put on the disk, and a stop may come at it.
use Rattle.arj_law_parts.proofs.Words
use Words.{◌≡◌, ◌∙◌, ◌⊎◌, ◌+◌, ◌++◌, ℕ, List, [], ◌∷◌, map, true, Option, Some, None, refl, sym, ap, subst, inl, inr, ⊎_elim, arith, length}
use Words.{Contains, is_some, in_from, in_to, Body, Uid, Coord, After, Before, Disk, Do, Effect, InPart, Intent, PutIntent, Say, worked}
use Words.{Parts, with_coord, at_uid, Branch, branch_of, numbered, Seen}
use Words.ending
use Rattle.arj_law_lock_view.proofs.Terms
use Terms.{begun_of, root, State, action_of, GoesOn, Within, Stops, Up, Walks, IsTiedToLines, ArePlain, IsDecided, HasEnded, View, Case}
use Terms.{HoldsNamingIn, IsSeenIn, Spot, view_in, world_at, AreSends, AreSendsShown, HasStepped, coord_at, Fixed, HaveConfirms}
use Terms.{AreRecordsOf, SeesUp, AreTied, IsSeenSo}
use Terms.keys
use Rattle.arj_law_lock_view.proofs.journal.EndTies.{said_twice}
use Rattle.arj_law_lock_view.proofs.running
use running.{HaltSteps.halt_last, HaltSteps.halt_up, NameSteps.confirms_down, NameSteps.confirms_more, UnitSteps.others_unit}
use running.CoordSteps.{confirms_then, home, length_said, one, up_then, walk_says, walk_sends}
use running.GoodSteps.{good_node, its, steady}
use running.OtherSteps.{confirms_of, SeesOthers, here_of, others_of}
use running.TieSteps.{IsTiedNow, tied_behind, tied_now, tied_plain}
use Rattle.arj_law_parts.proofs.parts.Truths.{put_in}

module _ (c : Case) (s : Spot) (is_seen : IsSeenIn c (world_at s)) (holds : HoldsNamingIn c s.node (let t = s.parts in t.naming)) (u : Uid)
    (i : Intent) where
  abbrev f : Fixed
  f = c.fixed

  abbrev k : ℕ
  k = s.node

  abbrev t : Parts
  t = s.parts

  abbrev S : State
  S = c.state

  abbrev V : View
  V = view_in c s.node

  -- the disk with the record
  abbrev noted : Disk
  noted = worked (PutIntent u i) s.disk

  here : SeesUp V S s.disk t
  here = here_of c.fixed c.x c.begun s.node s.disk (Some t) S s.seen is_seen.sees

  known : (w : Uid) (b : Branch) → branch_of w t.coord.tree ≡ Some b → Contains c.begun (action_of b)
  known w b found = let g = good_node c s is_seen in let h = g.coord in h.known w b found

  -- the records with this one
  records_with : (last : Option Uid) (T : State) → ((last ≡ Some u) ⊎ HasEnded V T u ending.Commit) →
      AreRecordsOf V None (let d = s.disk in d.intents) T → AreRecordsOf V last (let d = noted in d.intents) T
  records_with last T so old w j there = ⊎_elim
      (λ (same : w ≡ u). subst (λ (v : Uid). (last ≡ Some v) ⊎ HasEnded V T v ending.Commit) (sym same) so)
      (λ q. ⊎_elim (λ none. absurd (cc none)) (λ ended. inr ended)
      (old w q.0 (in_to {X = Uid × Intent} (w, q.0) (let d = s.disk in d.intents) q.1)))
      (put_in u i w j (let d = s.disk in d.intents) (in_from {X = Uid × Intent} (w, j) (let d = noted in d.intents) there))

  -- whom the node had confirmed
  gone : (M : Seen) → Within (let N = s.seen in N.sent) M.sent → (e : Disk) → (let d = s.disk in e.names ≡ d.names) →
      HaveConfirms f c.x k S M.sent e None
  gone M within e names = confirms_down f c.x k S M.sent s.disk e (Some t) names (confirms_more f c.x k S (let N = s.seen in
      N.sent) M.sent within s.disk (Some t) (confirms_of f c.x c.begun k s.disk (Some t) S s.seen is_seen.sees))

  -- a stop at the record: without it the top is aborted, with it it is decided
  record_stops : IsDecided f.act t.coord u S → (e : ℕ) (M : Seen) → Within (let N = s.seen in N.sent) M.sent →
      SeesOthers f c.x c.begun k S M → IsTiedNow f c.x c.begun S M.lines → Stops (IsSeenSo c) e k (PutIntent u i) s.disk M
  record_stops decided e M within others now Before = λ agrees. halt_up f c.x c.begun k e S S s.disk t M (steady c s is_seen) known
      (let l = its c s is_seen in l.server) (let l = its c s is_seen in l.node) holds others here (gone M within s.disk refl) now
  record_stops decided e M within others now (InPart which) = λ agrees. halt_up f c.x c.begun k e S S s.disk t M (steady c s is_seen) known
      (let l = its c s is_seen in l.server) (let l = its c s is_seen in l.node) holds others here (gone M within s.disk refl) now
  record_stops decided e M within others now After = λ agrees. halt_last f c.x c.begun k (Some u) e S S s.disk noted t M decided refl
      (λ w is. (let same : u ≡ w = cc is in subst (λ (v : Uid). is_some (at_uid v (let d = noted in d.intents)) ≡ true) same
      (ap is_some (keys.put_same u i (let d = s.disk in d.intents)))))
      (records_with (Some u) S (inl refl) here.records) (steady c s is_seen) known (let l = its c s is_seen in
      l.server) (let l = its c s is_seen in l.node) holds others here (gone M within noted refl) now

  -- lines, the record, the line of the commit, and what is told of it
  module _ (b : Branch) (found : branch_of u (let q = coord_at s in q.tree) ≡ Some b) (C : Coord) (on : GoesOn (coord_at s) C)
      (pre : List Body) (T : State) (has : HasStepped c s u (length pre + 1) C T) (decided : IsDecided f.act t.coord u S)
      (ended : HasEnded V T u ending.Commit) where
    up_noted : SeesUp V T noted (with_coord t C)
    up_noted =
        let z = up_then c s is_seen u b found C on (length pre + 1) T has in
        record {
          server = z.server;
          coord = z.coord;
          naming = z.naming;
          inc = z.inc;
          place = z.place;
          home = z.home;
          past = z.past;
          records = records_with None T (inr ended) z.records;
        }

    pub decides_walk : (e : ℕ) (l : Body) (sends : List Effect) → AreSends sends → AreSendsShown c s T sends → ArePlain pre →
        begun_of l ≡ None → AreTied f c.x ((let M = s.seen in M.lines) ++ numbered e (pre ++ l ∷ [])) T
        → Walks (IsSeenSo c) e k (map Say pre ++ (Do (PutIntent u i) ∷ Say l ∷ sends)) (Up (IsSeenSo c) k (with_coord t C)) s.disk s.seen
    decides_walk e l sends are_sends shown plain none tied =
        walk_says c s e (with_coord t C) S pre (Do (PutIntent u i) ∷ Say l ∷ sends) s.disk s.seen
        (others_of f c.x c.begun k s.disk (Some t) S s.seen is_seen.sees) (λ q there. there)
        (λ N lines within others. let now_N = subst (IsTiedNow f c.x c.begun S) (sym lines)
        (tied_plain f c.x c.begun e pre S (let M = s.seen in M.lines) plain (tied_now c (world_at s) is_seen)) in (
          record_stops decided e N within others now_N,
          walk_says c s e (with_coord t C) S (l ∷ []) sends noted N others within
              (λ O more_lines within_O others_O. walk_sends c s e (with_coord t C) T sends noted O are_sends shown within_O
              (others_unit f c.x (root (f.act u)) c.begun k S T O has.run has.only (home c s is_seen u b found C on (length pre + 1) T has)
              (one c s is_seen u b found C on (length pre + 1) T has) has.changed (let m = has.now in
              let long = ap length lines ∙ length_said e pre (let M = s.seen in M.lines) in
              let longer = ap length more_lines ∙ length_said e (l ∷ []) N.lines in omega (arith, m, long, longer)) others_O)
              up_noted (confirms_then c s is_seen u b found C on (length pre + 1) T has noted refl)
              (subst (IsTiedNow f c.x c.begun T) (sym more_lines) (tied_behind f c.x c.begun e (l ∷ []) S T N.lines (none, tt) now_N
              (λ values is. subst (λ ls. IsTiedToLines f.act f.code values c.x ls T) (sym (ap (λ ls. ls ++ numbered e (l ∷ [])) lines
              ∙ said_twice e pre (l ∷ []) (let M = s.seen in M.lines))) (tied values is)))) has.run),
        ))
