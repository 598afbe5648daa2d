-- What was run of a script, and what is run behind it.
use Rattle.std.proofs.Common.{◌≡◌, ℕ, ◌≤◌, List, ◌++◌, false, ◌∙◌, ap, arith}
use Rattle.arj_core.specs.declared.node.Core as core
use Rattle.arj_disk.specs.declared.disk.Disk as disk
use Rattle.arj_journal.specs.declared.header.Header.{Header}
use Rattle.arj_loop.specs.Input.{Arrived}
use Rattle.arj_loop.specs.declared.machine.Machine.{Ghosts}
use Rattle.arj_loop.proofs.Steps.{events_within}
use Rattle.arj_nodes.specs.AllNodes.{RanAll, task}
use Rattle.arj_nodes.specs.AsMachine.{all_nodes}
use Rattle.arj_nodes.specs.declared.all_nodes.AllNodes.{AllNodes}
use Rattle.arj_saving.specs.Saved.{HasUp, RanScript, header_of, script_events}
use Rattle.arj_saving.specs.Stops.{HasCrashed, Moment, crashes, up_nodes}

module _ {D M : Type 0} (m : Ghosts M D) (given : Arrived) (first : List D) (now : Moment D M) (s : RanScript m given first now) where
  -- its events were run
  pub script_ran : m.ran first (header_of m given first now s) (script_events m given first now s) now.rack now.journal now.machine
  script_ran = let r = s.reached in let t = r.stage in let runs = t.machine_is in runs.2

  pub script_steps : m.steps now.machine ≤ 100000
  script_steps =
      let r = s.reached in
      let t = r.stage in
      let runs = t.machine_is in
      omega (arith, runs.3, events_within t.forms, t.counted, t.within)

  pub script_going : m.over now.machine ≡ false
  script_going = let r = s.reached in r.going (λ e. absurd (cc e))

module _ {C D : Type 0} (c : core.Ghosts C) (d : disk.Ghosts D) (given : Arrived) (first : List D) (now : Moment D (AllNodes C))
    (s : RanScript (all_nodes c d) given first now) where
  -- the nodes' header is the script's
  pub same_header : (let n = now.machine in let w = n.world in w.header) ≡ header_of (all_nodes c d) given first now s
  same_header = let ran : RanAll c d (task first (header_of (all_nodes c d) given first now s) (script_events (all_nodes c d) given first now s)) _ _ =
      script_ran (all_nodes c d) given first now s in ran.header

  abbrev pub has_up : (ups : List ℕ) → ups ≡ up_nodes now.journal (let n = now.machine in let w = n.world in let h = w.header in h.nodes) →
      HasUp (all_nodes c d) given first now ups
  has_up ups is = record { script = s; ups_are = is ∙ ap (λ (h : Header). up_nodes now.journal h.nodes) same_header }

  -- and stays so
  pub crashed_header : (ups : List ℕ) (then : Moment D (AllNodes C)) → HasCrashed (all_nodes c d) ups now then →
      (let n = then.machine in let w = n.world in w.header) ≡ header_of (all_nodes c d) given first now s
  crashed_header ups then a =
      let ran : RanAll c d (task first (header_of (all_nodes c d) given first now s) (script_events (all_nodes c d) given first now s ++ crashes ups)) _ _ =
      a.ran first (header_of (all_nodes c d) given first now s) (script_events (all_nodes c d) given first now s) (script_ran (all_nodes c d) given first now s) in
      ran.header
