-- What a node sends at a tick and as it comes up, and what its server says: no states but those that wait at its coordinator.
use Rattle.arj_law_parts.proofs.Words
use Words.{◌+◌, ℕ, List, [], ◌∷◌, ◌++◌, map, Option, Some, None, flat_map, list_all, and_parts, Header, Row, Uid, last_uid, again_all}
use Words.{back_lines, Disk, Do, Effect, Intent, Look, PutInc, Say, Send, tick_outs, Named, Naming, Parts, holders, prepared_actions}
use Words.{query_about, uid_set, without_number, AreAll, is_server_effect, Node, hello_to, naming_at, naming_back, numbers_to}
use Words.{recovered_records, restart_outs, tolds_again}
use Words.body
use Rattle.arj_law_disk_view.proofs.Terms.{all_append, AllSay, CoordIsSo, Fits, MayKeep}
use Rattle.arj_law_disk_view.proofs.running.{StateInputs.ticks_so, StateEnds.told_again_so}

module _ (F : Fits) (keep : MayKeep F) where
  both : (es fs : List Effect) → AllSay F es → AllSay F fs → AllSay F (es ++ fs)
  both es fs a b = all_append _ es fs a b

  pub server_lines : (n : ℕ) (es : List Effect) → AreAll (is_server_effect n) es → AllSay F es
  server_lines n [] own = tt
  server_lines n (Say b ∷ es) own =
      (tt, server_lines n es (and_parts (is_server_effect n (Say b)) (list_all (is_server_effect n) es) own).1)
  server_lines n (Send to m ∷ es) own = absurd (cc own)
  server_lines n (Do w ∷ es) own = absurd (cc own)

  pub queries : (us : List Uid) → AllSay F (map query_about us)
  queries [] = tt
  queries (u ∷ us) = ((tt, tt), queries us)

  pub tick_so : (n : Node) (t : Parts) → CoordIsSo F t.coord →
      CoordIsSo F (again_all t.coord.doings t.coord).part × AllSay F (tick_outs n t)
  tick_so n t its =
      let a = ticks_so F keep t.coord its in
      let q = again_all t.coord.doings t.coord in (
        a.0,
        both (q.outs ++ tolds_again t.coord.telling) (map query_about (holders n.disk t))
            (both q.outs (tolds_again t.coord.telling) a.1 (told_again_so F keep t.coord.telling)) (queries (holders n.disk t)),
      )

  pub restart_so : (hd : Header) (node : ℕ) (d : Disk) → AllSay F (restart_outs hd node (d.inc + 1) d)
  restart_so hd node d = both (first ++ second ++ tolds_again d.intents ++ asking) hellos
      (both (first ++ second ++ tolds_again d.intents) asking (both (first ++ second) (tolds_again d.intents) (both first second
      (tt, (tt, (tt, (tt, back (naming_at node (d.inc + 1) d.names))))) (tt, records d.intents)) (told_again_so F keep d.intents))
      (queries (uid_set (prepared_actions d.store ++ prepared_actions d.names)))) (greets (without_number node (numbers_to hd.nodes)))
    where
      first : List Effect
      first =
          Do Look ∷ Do (PutInc (d.inc + 1)) ∷ Say (body.Up node (d.inc + 1)) ∷ Do Look ∷ naming_back (naming_at node (d.inc + 1) d.names)

      second : List Effect
      second = Do Look ∷ recovered_records node d.intents

      asking : List Effect
      asking = map query_about (uid_set (prepared_actions d.store ++ prepared_actions d.names))

      hellos : List Effect
      hellos = map (hello_to node (d.inc + 1)) (without_number node (numbers_to hd.nodes))

      row_lines : (rows : List Row) → AllSay F (map (λ (r : Row). Say (body.Granted 1 (last_uid r.holder) r.object r.mode)) rows)
      row_lines [] = tt
      row_lines (r ∷ rs) = (tt, row_lines rs)

      object_lines : (objects : List (ℕ × Named)) → AllSay F (flat_map (λ (e : ℕ × Named). back_lines e.1) objects)
      object_lines [] = tt
      object_lines (e ∷ es) =
          both (back_lines e.1) (flat_map (λ (f : ℕ × Named). back_lines f.1) es) (row_lines (let o = e.1 in o.rows)) (object_lines es)

      back : (o : Option Naming) → AllSay F (naming_back o)
      back None = tt
      back (Some n) = object_lines n.objects

      records : (intents : List (Uid × Intent)) → AllSay F (recovered_records node intents)
      records [] = tt
      records (e ∷ es) = (tt, records es)

      greets : (ns : List ℕ) → AllSay F (map (hello_to node (d.inc + 1)) ns)
      greets [] = tt
      greets (n ∷ ns) = ((tt, tt), greets ns)
