-- How a node's coordinator goes on at each handler: it stays as it was, or goes on and answers nobody.
use Rattle.arj_law_parts.proofs.Words
use Words.{◌≡◌, ◌≢◌, ◌∙◌, ℕ, List, Bool, true, false, Option, Some, None, is_some, refl, sym, ap, subst, inl, inr, Asked, Header, Kind}
use Words.{Label, Message, Uid, asks, Reply, answers, again_all, begin_action, heard, Coord, Effect, Served, acked, answer_query, tick_outs}
use Words.{Parts, Took, handle, with_coord, Input, acts, parent_of, refusal_up}
use Words.input
use Rattle.arj_law_serial.proofs.Terms
use Terms.{AreBegun, paths_of, IsTree, begun_tree, well_acked, well_acts, well_again, well_heard, is_act, Case, IsSeenIn, Spot, world_at}
use Terms.{coord_at, is_for_parts, its, coordinated, handled_answer, is_acked, is_answer, is_query, response_is, took_heard, Leaves}
use Terms.{message_left, path_found, IsGoodCoord}
use Rattle.arj_law_lock_view.proofs.facts.Onward.{further_acked, further_acts, further_again, further_begins, further_heard}
use Rattle.arj_law_lock_view.specs.running.Coordinating.{records_at}
use Rattle.arj_law_serial.proofs.joint.{LoadMoves.GoesOnward, LoadMoves.IsOnward, Mute.tick_silent, Mute.true_silent}

-- no new action begins
not_begin : (i : Input) → is_act i ≡ true → (l : Label) (k : Kind) (parent : Option Label) → i ≢ input.Begin l k parent
not_begin i act l k parent same = let bad : true ≡ false = sym act ∙ ap is_act same in cc bad

module _ (c : Case) (s : Spot) (is_seen : IsSeenIn c (world_at s)) where
  abbrev C : Coord
  C = coord_at s

  begun : AreBegun c.begun
  begun = let g = is_seen.good in g.begun

  abbrev tree : IsTree (paths_of c.begun)
  tree = begun_tree c.begun begun

  good : IsGoodCoord c.begun (paths_of c.begun) C
  good = let i = its c s is_seen in let n = i.good (paths_of c.begun) tree (path_found c.begun begun) in n.coord

  -- what a coordinator does that serves
  served : (r : Served Coord (Unit {0})) (v : Parts) (outs : List Effect) → (with_coord s.parts r.part ≡ v) × (r.outs ≡ outs) →
      IsOnward C r.outs r.part → IsOnward C outs v.coord
  served r v outs (parts, same) on =
      subst (λ (es : List Effect). IsOnward C es v.coord) same (subst (λ (z : Parts). IsOnward C r.outs z.coord) parts on)

  heard_onward : (from : ℕ) (a : Asked) (r : Reply) → let D = heard from a r (records_at s) C in IsOnward C D.outs D.part
  heard_onward from a r =
      let D = heard from a r (records_at s) C in
      let w = well_heard c.begun (paths_of c.begun) tree from a r (records_at s) C good in
      inr (
        w.0.own,
        further_heard C c.begun (paths_of c.begun) tree good (let i = its c s is_seen in i.numbered) from a r (records_at s),
        true_silent D.part D.outs w.1,
      )

  acked_onward : (from : ℕ) (u : Uid) → let D = acked from u (records_at s) C in IsOnward C D.outs D.part
  acked_onward from u =
      let D = acked from u (records_at s) C in
      let w = well_acked c.begun (paths_of c.begun) tree from u (records_at s) C in
      inr (w.0.own, further_acked C from u (records_at s), true_silent D.part D.outs w.1)

  pub message_onward : (from : ℕ) (m : Message) (v : Parts) (outs : List Effect) → handle s.node s.disk s.parts from m ≡ Took v outs →
      IsOnward C outs v.coord
  message_onward from m v outs takes = by (is_for_parts m) refl
    where
      coordinator : (o : Option (Uid × Bool)) → coordinated m ≡ o → is_for_parts m ≡ false → IsOnward C outs v.coord
      coordinator None none off = hears (answers m) refl (is_answer m none off)
        where
          hears : (o : Option (Asked × Reply)) → answers m ≡ o → is_some o ≡ true → IsOnward C outs v.coord
          hears None of some = absurd (cc some)
          hears (Some a) of some =
              let n = subst (λ (w : Message). handle s.node s.disk s.parts from w ≡ Took v outs) (response_is m a of) takes in
              served (heard from a.0 a.1 (records_at s) C) v outs (took_heard s.parts v (heard from a.0 a.1 (records_at s) C) outs
              (sym (handled_answer s.node s.disk s.parts from a.0 a.1) ∙ n)) (heard_onward from a.0 a.1)
      coordinator (Some (w, true)) of off =
          let n = subst (λ (y : Message). handle s.node s.disk s.parts from y ≡ Took v outs) (is_acked m w of) takes in
          served (acked from w (records_at s) C) v outs (took_heard s.parts v (acked from w (records_at s) C) outs n) (acked_onward from w)
      coordinator (Some (w, false)) of off =
          let n = subst (λ (y : Message). handle s.node s.disk s.parts from y ≡ Took v outs) (is_query m w of) takes in
          let taken : Took s.parts (answer_query from w (records_at s) C) ≡ Took v outs = n in
          let same : s.parts ≡ v = cc taken in
          inl (ap (λ (z : Parts). z.coord) (sym same))

      by : (b : Bool) → is_for_parts m ≡ b → IsOnward C outs v.coord
      by true mine = let l = (subst (Leaves s.parts from (asks m)) takes (message_left s.node s.disk s.parts from m mine)).0 in inl l.coord
      by false mine = coordinator (coordinated m) refl mine

  pub act_onward : (hd : Header) (i : Input) → is_act i ≡ true → refusal_up hd i C ≡ None → let D = acts i (records_at s) C in
      GoesOnward C D.outs D.part
  act_onward hd i is free =
      let D = acts i (records_at s) C in
      let w = well_acts c.begun (paths_of c.begun) tree (records_at s) C good (let u = its c s is_seen in let f = u.faithful in
      f.works) hd i free (not_begin i is) in (
        w.0.own,
        further_acts C c.begun (paths_of c.begun) tree good (let u = its c s is_seen in u.numbered) i (records_at s) (not_begin i is),
        true_silent D.part D.outs w.1,
      )

  pub begin_onward : (l : Label) (how : Kind) (parent : Option Label) → let D = begin_action l how parent (parent_of parent C) C in
      GoesOnward C D.outs D.part
  begin_onward l how parent = ((λ u. refl), further_begins C l how parent, (tt, tt))

  pub tick_onward : let D = again_all C.doings C in
      GoesOnward C (tick_outs (record { number = s.node; disk = s.disk; live = Some s.parts }) s.parts) D.part
  tick_onward =
      let D = again_all C.doings C in
      let w = well_again c.begun (paths_of c.begun) tree C good in (
        w.0.own,
        further_again C C.doings,
        tick_silent (record { number = s.node; disk = s.disk; live = Some s.parts }) s.parts (true_silent D.part D.outs w.1),
      )
