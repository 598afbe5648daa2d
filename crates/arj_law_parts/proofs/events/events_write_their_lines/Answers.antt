use Rattle.arj_law_parts.proofs.steps.{Spoken.event_writes, Whole.event_whole, Whole.starts_whole, Whole.runs_whole}
use Rattle.arj_law_parts.proofs.events.events_write_their_lines.Goals as goal

pub returns-clause-lines : goal.returns-clause-lines
returns-clause-lines c = event_writes

pub returns-clause-whole : goal.returns-clause-whole
returns-clause-whole c = runs_whole

pub returns-clause-first : goal.returns-clause-first
returns-clause-first c = starts_whole

pub returns-clause-kept : goal.returns-clause-kept
returns-clause-kept c = event_whole
