use Rattle.arj_journal_reader.proofs.LineReading.{read_back, read_none, read_so}
use Rattle.arj_journal_reader.proofs.read.read_line.Goals as goal

pub returns-clause-read : goal.returns-clause-read
returns-clause-read c = read_so c.args.bytes.now c.line.result c.line.ensures

pub returns-clause-back : goal.returns-clause-back
returns-clause-back c = read_back c.args.bytes.now c.line.result c.line.ensures

pub returns-clause-none : goal.returns-clause-none
returns-clause-none c = read_none c.args.bytes.now c.line.result c.line.ensures
