use Rattle.arj_check.proofs.tops.put_top.Goals as goal
use Rattle.arj_check.proofs.Roots.{has_push}

pub returns : goal.returns
returns c = λ ts has.
    has_push ts (record { id = c.args.number; root = c.args.root; at = c.args.at }) c.args.tops.now (record {
      roots =
          c.note.new.map;
      places =
          c.note-2.new.map;
      units = c.raise.new.map;
    }) has c.in_ok-note.ensures c.in_ok-note-2.ensures c.in_ok-raise.ensures
