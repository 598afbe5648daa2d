use Rattle.arj_journal_reader.proofs.Journals.{journal_once, line_once}
use Rattle.arj_journal_reader.proofs.law.one_text_per_journal.Goals as goal

pub returns-clause-line : goal.returns-clause-line
returns-clause-line c = line_once

pub returns-clause-journal : goal.returns-clause-journal
returns-clause-journal c = journal_once
