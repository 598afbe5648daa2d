-- Lines and stops leave the object seen.
use Rattle.arj_law_parts.proofs.Words.{None, Some, arith, refl, numbered}
use Rattle.arj_law_lock_view.proofs.Terms.{down, world_at}
use Rattle.arj_law_lock_view.proofs.running
use running.{HaltSteps.halt_down, HaltSteps.halt_up, NameSteps.confirms_down, TieSteps.tied_now, TieSteps.tied_quiet}
use running.GoodSteps.{good_node, its, steady}
use running.OtherSteps.{confirms_of, here_of, longer, others_of}
use Rattle.arj_law_lock_view.specs.running.World.{DownStays, LinesStay, QuietsStay, StopsGo}

pub lines_stay : LinesStay
lines_stay c e bs M s = record {
  run = s.run;
  nodes = s.nodes;
  absent = s.absent;
  confirms = s.confirms;
  posts = s.posts;
  fresh = s.fresh;
  now = (let l = longer c.fixed c.x c.begun M.lines (numbered e bs) in let h = s.now in omega (arith, l, h));
}

pub down_stays : DownStays
down_stays c e k d M seen agrees = let s = seen.sees in
    halt_down c.fixed c.x c.begun k e c.state d M (others_of c.fixed c.x c.begun k d None c.state M s)
    (here_of c.fixed c.x c.begun k d None c.state M s) (confirms_of c.fixed c.x c.begun k d None c.state M s) (tied_now c (down k d M) seen)

pub quiets_stay : QuietsStay
quiets_stay c e bs M quiet seen = let t = tied_quiet c.fixed c.x c.begun e bs c.state M.lines quiet (tied_now c M seen) in t.tied

pub stops_go : StopsGo
stops_go c s e seen holds agrees =
    let z = seen.sees in
    halt_up c.fixed c.x c.begun s.node e c.state c.state s.disk s.parts s.seen (steady c s seen) (λ u b found. (let g = good_node c s
    seen in let h = g.coord in h.known u b found)) (let i = its c s seen in i.server) (let i = its c s seen in i.node) holds
    (others_of c.fixed c.x c.begun s.node s.disk (Some s.parts) c.state s.seen z) (here_of c.fixed c.x c.begun s.node s.disk (Some s.parts)
    c.state s.seen z) (confirms_down c.fixed c.x s.node c.state (let M = s.seen in M.sent) s.disk s.disk (Some s.parts) refl
    (confirms_of c.fixed c.x c.begun s.node s.disk (Some s.parts) c.state s.seen z)) (tied_now c (world_at s) seen)
