-- What holds of all nodes and messages is kept by each handler.
use Rattle.arj_law_parts.proofs.Words
use Words.{ℕ, ◌+◌, List, ◌∷◌, Some, next_uid, path_below, again_all, begin_action, Disk, Effect, tick_outs, acts, parent_of}
use Words.{parts_in, restart_outs, Parts, with_coord, Header, Seen, is_serial}
use Rattle.arj_law_runs.proofs.Terms.{Action, IsGood, IsGoodOf, Keeps, given, Walks, Up, walks_to}
use Rattle.arj_law_runs.proofs.kept
use kept.{Begins.begin_good, Starts.first_good, Starts.restart_good}
use kept.Handled.{act_good, message_good, stopped_good, tick_good}

-- with the actions begun so far it holds of some actions
module _ (acts : List Action) (e k : ℕ) (outs : List Effect) (v : Parts) (d : Disk) (M : Seen) where
  some_acts : Walks (IsGoodOf acts) e k outs (Up (IsGoodOf acts) k v) d M → Walks IsGood e k outs (Up IsGood k v) d M
  some_acts walk = walks_to (IsGoodOf acts) IsGood e k outs (Up (IsGoodOf acts) k v) (Up IsGood k v) d M (λ N good. (acts, good))
      (λ c N good. (acts, good)) walk

pub all_keep : (hd : Header) → Keeps hd IsGood
all_keep hd = record {
  quiet = λ e bs M quiet good. good;
  stop = λ e k d live M good. (good.0, stopped_good k d live M good e);
  message =
      λ e k d t v from m outs M good there meant is. some_acts good.0 e k outs v d M (message_good e k d t M good v from m outs there is);
  act = λ e k d t i M is none good. let did = acts i d.intents t.coord in
      some_acts good.0 e k did.outs (with_coord t did.part) d M (act_good e k d t M good hd i is none);
  begin = λ e k d t l how parent M new may none good. let did = begin_action l how parent (parent_of parent t.coord) t.coord in
      some_acts (record { path = path_below how (parent_of parent t.coord) (next_uid t.coord.tree); kind = how } ∷ good.0) e k did.outs
      (with_coord t did.part) d (given l (record { node = k; serial = is_serial how }) M)
      (begin_good e k d t l how parent M new may none good);
  tick = λ e k d t M good. some_acts good.0 e k (tick_outs (record { number = k; disk = d; live = Some t }) t)
      (with_coord t (again_all t.coord.doings t.coord).part) d M (tick_good e k d t M good);
  restart =
      λ e k d M good. some_acts good.0 e k (restart_outs hd k (d.inc + 1) d) (parts_in k (d.inc + 1) d) d M (restart_good hd e k d M good);
  first = first_good hd;
}
