-- The row of nodes that are up again: a restart puts an incarnation above that of the journal.
use Rattle.arj_law_parts.proofs.Words
use Words.{◌≡◌, ◌∙◌, ◌≤◌, ◌+◌, ◌&&◌, ℕ, true, false, if◌then◌else◌, List, [], ◌++◌, Some, None, refl, sym}
use Words.{ap, subst, arith}
use Words.{nat_lt, nat_tests, map, Line, restart_outs, Body, Effect, Say, Send, Do, Disk, Event, Header}
use Words.{Handled, Void, Start}
use Words.{acts as does, acts_own, again_all, again_own, all_both, handle, holders, parent_of, query_about, tick_outs}
use Words.{tolds_again, tolds_again_own, cond, begin_action}
use Words.body
use Words.event
use Words.input
use Rattle.arj_law_parts.proofs.moves.Happens.{Wide}
use Rattle.arj_law_parts.proofs.steps.Still.{Still, coord_good, map_good, outs_of, says_still, taken_good}
use Rattle.arj_law_parts.specs.moves.Moments.{Moment}
use Rattle.arj_law_parts.specs.moves.Seen as seen
use Rattle.arj_law_parts.specs.moves.Seen.{is_quiet_line}
use Rattle.arj_law_runs.proofs.follow.Halts as halts
use Rattle.arj_law_runs.proofs.follow.Uids.{KnowsNext, next_keep}
use Rattle.arj_law_runs.proofs.kept.Walked.{same_number}
use Rattle.arj_model.specs.CauseNodes.{restarts}
use Rattle.arj_model.specs.Caused.{has_cause}
use Rattle.arj_model.specs.Past.{Past}
use Rattle.arj_model.specs.Refusals.{incarnation}
use Rattle.arj_law_cause.proofs.kinds.Nodes.{all_too, wide_all}
use Rattle.arj_law_cause.proofs.kinds.Running.{nothing_more, row_run}
use Rattle.arj_law_cause.proofs.kinds.Walks as walks
use Rattle.arj_law_cause.specs.kinds.Kinds.{is_up}
use Rattle.arj_law_cause.specs.kinds.Rows.{RowHolds}

quiet : (b : Body) → is_quiet_line b ≡ true → is_up b ≡ false
quiet (body.Up n i) is = absurd (cc is)
quiet b is = refl

no_halt : (k : ℕ) → is_up (body.Halted k) ≡ false
no_halt k = refl

module _ (hd : Header) (st : Start) (q : Past) (e : Event) where
  still_none : (x : Effect) → says_still x ≡ true → walks.says_none has_cause hd is_up quiet no_halt st q e x ≡ true
  still_none (Say (body.Up n i)) is = absurd (cc is)
  still_none (Say b) is = refl
  still_none (Send to m) is = refl
  still_none (Do w) is = refl

  still_well : (es : List Effect) (ls : List Line) → Still es → walks.Well has_cause hd is_up quiet no_halt st q e es ls
  still_well es ls still = walks.none_well has_cause hd is_up quiet no_halt st q e es ls
      (all_too says_still (walks.says_none has_cause hd is_up quiet no_halt st q e) still_none es still)

  -- the incarnation that a restart puts is above the journal's
  restart_well : (k : ℕ) (d : Disk) (M : Moment) → M.past.event ≡ event.Restart k →
      Wide KnowsNext (record M { seen = seen.down k d M.seen }) →
      walks.Inside has_cause hd is_up quiet no_halt st q e M →
      walks.Well has_cause hd is_up quiet no_halt st q e (restart_outs hd k (d.inc + 1) d) M.seen.lines
  restart_well k d M its known h =
      let M2 = seen.with_sent known.0 M.seen in
      let all = known.2 in
      let its_own = all.1 k (record { number = k; disk = d; live = None })
      (λ i. if same_number k i then Some (record { number = k; disk = d; live = None }) else M.seen.nodes k) in (
        up_is (subst (λ s. incarnation s M.seen.lines k ≤ d.inc) h.start its_own.0),
        still_well (halts.behind hd e_number k d M2 all.0) _ (halts.behind_still hd e_number k d M2 all.0),
      )
    where
      e_number : ℕ
      e_number = 0

      below : (a b : ℕ) → a ≤ b → nat_lt a (b + 1) ≡ true
      below a b is = grind (arith, nat_tests, is)

      up_is : incarnation st M.seen.lines k ≤ d.inc → (restarts k e && nat_lt (incarnation st M.seen.lines k) (d.inc + 1)) ≡ true
      up_is low = λ i. (ap (restarts k) (sym h.event ∙ its) ∙ same_number k) i && below (incarnation st M.seen.lines k) d.inc low i

  well : walks.SaysWell has_cause hd is_up quiet no_halt st q e (Wide KnowsNext)
  well = record {
    message = λ k d t v from m outs M known h there meant may is. still_well outs M.seen.lines
        (subst (λ (x : Handled). Still (outs_of x)) ((λ i. cond (meant i) (handle k d t from m) (Void [])) ∙ is) (taken_good k d t from m));
    act = λ k d t i M is brings fresh asks free known h. still_well (does i d.intents t.coord).outs M.seen.lines
        (coord_good (does i d.intents t.coord).outs (acts_own i d.intents t.coord));
    begin = λ k d t l how parent M brings fresh new gives none known h.
        let did = begin_action l how parent (parent_of parent t.coord) t.coord in
        still_well did.outs M.seen.lines (coord_good did.outs (acts_own (input.Begin l how parent) d.intents t.coord));
    tick = λ k d t M known h.
        let r = again_all t.coord.doings t.coord in
        still_well (tick_outs (record { number = k; disk = d; live = Some t }) t) M.seen.lines
        (all_both says_still (r.outs ++ tolds_again t.coord.telling) (map query_about (holders d t))
        (all_both says_still r.outs (tolds_again t.coord.telling) (coord_good r.outs (again_own t.coord.doings t.coord))
        (coord_good (tolds_again t.coord.telling) (tolds_again_own t.coord.telling)))
        (map_good query_about (holders d t) (λ u. refl)));
    restart = λ k d M its fresh known h. restart_well k d M its known h;
  }

pub up_row : RowHolds is_up
up_row hd =
    let keeps = wide_all hd KnowsNext (next_keep hd) in
    row_run has_cause is_up quiet no_halt hd (Wide KnowsNext) keeps (nothing_more hd (Wide KnowsNext) keeps.steps)
    (λ st q e w between lines count. well hd st q e)
