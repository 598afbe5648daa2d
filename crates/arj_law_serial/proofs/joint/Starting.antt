-- Where a run began stays: along the walk of each handler, and through all moves.
use Rattle.arj_law_parts.proofs.Words
use Words.{◌≡◌, List, [], ◌∷◌, ℕ, ◌+◌, Some, refl, Disk, Do, Effect, Say, Send, stopped, worked, tick_outs, Parts, with_coord, acts}
use Words.{parent_of}
use Words.{parts_in, restart_outs, again_all, begin_action, Header, Move, World, all_moved, moved, run_event, world_by}
use Words.{world_from, Seen, Start, is_serial}
use Rattle.arj_law_serial.proofs.Terms
use Terms.{BeginsAs, Fixed, Marks, StandsFor, Values, IsGood, Up, Walks, arms_hold, event_asked, given, halted, posted}
use Terms.{said, up, all_keep as parts_good}
use Rattle.arj_law_parts.proofs.moves.Happens.{first_holds}
use Rattle.arj_law_parts.specs.moves.Keeps.{Holds, KeepsOn}
use Rattle.arj_promise.specs.Runs.{Run}

-- ---- along a walk

-- what holds along a walk, where what is seen began so
pub walks_here : (P Q : Seen → Type 0) (st : Start) → ((Z : Seen) → Z.start ≡ st → P Z → Q Z) → (e k : ℕ) (outs : List Effect) (v : Parts)
    (d : Disk) (N : Seen) → N.start ≡ st → Walks P e k outs (Up P k v) d N → Walks Q e k outs (Up Q k v) d N
walks_here P Q st go e k [] v d N same w = go (up k d v N) same w
walks_here P Q st go e k (Do z ∷ es) v d N same w =
    (λ how. go (halted e k (stopped how z d) N) same (w.0 how), walks_here P Q st go e k es v (worked z d) N same w.1)
walks_here P Q st go e k (Say b ∷ es) v d N same w = walks_here P Q st go e k es v d (said e (b ∷ []) N) same w
walks_here P Q st go e k (Send to m ∷ es) v d N same w = λ more quiet.
    walks_here P Q st go e k es v d (said e more (posted (record { from = k; to = to; message = m }) N)) same (w more quiet)

-- ---- who wrote the first state

-- whose mark it has
pub stands_for : (values : Values) (marks : Marks) (x : ℕ) (f : Fixed) → BeginsAs values marks x f → StandsFor f (values x)
stands_for values marks x f begins = (f.act (let m = marks.states x in m.writer), begins)

-- ---- through all moves

module _ (hd : Header) (st : Start) where
  -- what is seen began so
  abbrev Begins : Seen → Type 0
  Begins M = M.start ≡ st

  walk : (e k : ℕ) (outs : List Effect) (v : Parts) (d : Disk) (N : Seen) → Begins N → Walks Begins e k outs (Up Begins k v) d N
  walk e k [] v d N same = same
  walk e k (Do z ∷ es) v d N same = (λ how. same, walk e k es v (worked z d) N same)
  walk e k (Say b ∷ es) v d N same = walk e k es v d (said e (b ∷ []) N) same
  walk e k (Send to m ∷ es) v d N same =
      λ more quiet. walk e k es v d (said e more (posted (record { from = k; to = to; message = m }) N)) same

  begins_so : KeepsOn hd Begins
  begins_so = record {
    quiet = λ e bs M quiet same. same;
    stop = λ e k d live M same. same;
    message = λ e k d t v from m outs M same sent meant is. walk e k outs v d M same;
    act = λ e k d t i M is asks free same. let did = acts i d.intents t.coord in walk e k did.outs (with_coord t did.part) d M same;
    begin = λ e k d t l how parent M new may free same.
        let did = begin_action l how parent (parent_of parent t.coord) t.coord in
        walk e k did.outs (with_coord t did.part) d (given l (record { node = k; serial = is_serial how }) M) same;
    tick = λ e k d t M same. walk e k (tick_outs (record { number = k; disk = d; live = Some t }) t)
        (with_coord t (again_all t.coord.doings t.coord).part) d M same;
    restart = λ e k d M same. walk e k (restart_outs hd k (d.inc + 1) d) (parts_in k (d.inc + 1) d) d M same;
    first = tt;
  }

  moves_stay : (ms : List Move) (w : World) → Holds hd Begins w → Holds hd Begins (all_moved ms w)
  moves_stay [] w h = h
  moves_stay (m ∷ ms) w h = moves_stay ms (moved m w) (arms_hold hd Begins [] (run_event m.asked (record w { arms = m.falls }))
      (event_asked hd Begins begins_so m.asked (record w { arms = m.falls }) (arms_hold hd Begins m.falls w h)))

-- a run's world has its start
pub start_stays : (hd : Header) (r : Run hd) → (let w = world_by hd r in w.start) ≡ r.start
start_stays hd r =
    let h = first_holds hd r.start IsGood r.formed (parts_good hd) in
    (moves_stay hd r.start r.moves (world_from hd r.start) (record { sent = h.sent; stands = h.stands; holds = refl })).holds
