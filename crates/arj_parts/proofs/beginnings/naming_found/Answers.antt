use Rattle.arj_parts.proofs.Again.{found_lines, found_named}
use Rattle.arj_parts.proofs.FirstHere.{is_one}
use Rattle.arj_parts.proofs.beginnings.naming_found.Goals as goal

pub returns-then-number-eq1-clause-has : goal.returns-then-number-eq1-clause-has
returns-then-number-eq1-clause-has g c =
    λ p are on. found_named g.O.ObjectStore c.args.number c.args.inc (g.D.Disk.file c.args.disk.now) (g.D.Disk.file c.recover.new.disk) c.in_ok-recover.field-0 (is_one c.args.number c.if-number-eq1.true)
    c.in_ok-recover.ensures.stands c.in_ok-recover.ensures.part c.in_ok-recover.ensures.pair p are c.in_ok-recover.ensures.entries

pub returns-then-number-eq1-clause-lines : goal.returns-then-number-eq1-clause-lines
returns-then-number-eq1-clause-lines g c =
    λ p are. found_lines g.O.ObjectStore c.args.number c.args.inc (g.D.Disk.file c.args.disk.now) (g.D.Disk.file c.recover.new.disk) c.in_ok-recover.field-0 (is_one c.args.number c.if-number-eq1.true)
    c.in_ok-recover.ensures.stands c.in_ok-recover.ensures.part c.in_ok-recover.ensures.pair p are c.args.lines.now c.recover.new.out c.in_ok-recover.ensures.lines
