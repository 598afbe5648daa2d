-- Relations of the actions that were begun, together, and beside good nodes.
use Rattle.arj_law_parts.proofs.Words
use Words.{◌+◌, ℕ, List, [], ◌∷◌, Some, ⊤, Header, again_all, begin_action, Disk, Effect, tick_outs, Parts, with_coord, acts, parent_of}
use Words.{parts_in, restart_outs, Seen, is_serial}
use Rattle.arj_law_lock_view.proofs.Terms.{Action, IsGoodOf, begin_good, Keeps, given, Up, Walks, walks_both, walks_to, KeepsOf, begins_in}
use Rattle.arj_law_runs.proofs.kept
use kept.{Starts.first_of, Starts.restart_good}
use kept.Handled.{act_good, message_good, stopped_good, tick_good}

-- ---- for some actions

module _ (hd : Header) (R : List Action → Seen → Type 0) (keeps : KeepsOf hd (λ begun M. ⊤) R) where
  abbrev Kept : Seen → Type 0
  Kept M = (begun : List Action) × IsGoodOf begun M × R begun M

  together : (begun : List Action) (e k : ℕ) (outs : List Effect) (v : Parts) (d : Disk) (M : Seen) → Walks (IsGoodOf begun) e k outs
      (Up (IsGoodOf begun) k v) d M → Walks (R begun) e k outs (Up (R begun) k v) d M → Walks Kept e k outs (Up Kept k v) d M
  together begun e k outs v d M a b =
      walks_to (λ W. IsGoodOf begun W × R begun W) Kept e k outs (λ c W. Up (IsGoodOf begun) k v c W × Up (R begun) k v c W) (Up Kept k v) d
      M (λ W p. (begun, p.0, p.1)) (λ c W p. (begun, p.0, p.1))
      (walks_both (IsGoodOf begun) (R begun) e k outs (Up (IsGoodOf begun) k v) (Up (R begun) k v) d M a b)

  -- it is kept beside good nodes, with the actions that were begun
  pub kept_of : Keeps hd Kept
  kept_of = record {
    quiet = λ e bs M quiet p. (p.0, p.1, keeps.quiet p.0 e bs M quiet tt p.1 p.2);
    stop = λ e k d live M p. (p.0, stopped_good k d live M (p.0, p.1) e, keeps.stop p.0 e k d live M tt p.1 p.2);
    message = λ e k d t v from m outs M p there meant is. together p.0 e k outs v d M
        (message_good e k d t M (p.0, p.1) v from m outs there is) (keeps.message p.0 e k d t v from m outs M tt p.1 p.2 there meant is);
    act = λ e k d t i M is free p. let did = acts i d.intents t.coord in together p.0 e k did.outs (with_coord t did.part) d M
        (act_good e k d t M (p.0, p.1) hd i is free) (keeps.act p.0 e k d t i M is free tt p.1 p.2);
    begin = λ e k d t l how parent M new may free p.
        let did = begin_action l how parent (parent_of parent t.coord) t.coord in
        together (begins_in how parent t ∷ p.0) e k did.outs (with_coord t did.part) d
        (given l (record { node = k; serial = is_serial how }) M) (begin_good e k d t l how parent M new may free (p.0, p.1))
        (keeps.begin p.0 e k d t l how parent M new may free tt p.1 p.2);
    tick = λ e k d t M p. together p.0 e k (tick_outs (record { number = k; disk = d; live = Some t }) t)
        (with_coord t (again_all t.coord.doings t.coord).part) d M (tick_good e k d t M (p.0, p.1)) (keeps.tick p.0 e k d t M tt p.1 p.2);
    restart = λ e k d M p. together p.0 e k (restart_outs hd k (d.inc + 1) d) (parts_in k (d.inc + 1) d) d M
        (restart_good hd e k d M (p.0, p.1)) (keeps.restart p.0 e k d M tt p.1 p.2);
    first = λ st formed. ([], first_of hd st formed, keeps.first st formed);
  }
