-- What the proofs of this crate name of its own definitions and of the crates below, passed on from one place.
-- Declares nothing.
pub use Rattle.arj_base.specs.Uid.{entry, uid_eq}
pub use Rattle.arj_base.specs.declared.uid.Uid.{Uid}
pub use Rattle.arj_class.specs.Table.{answer_of, value_after, writes}
pub use Rattle.arj_class.specs.declared.op.Op.TheVariants.{Add, Get}
pub use Rattle.arj_journal.specs.declared.body.Body.{Body}
pub use Rattle.arj_journal.specs.declared.body.Kind.{Kind}
pub use Rattle.arj_journal.specs.declared.body.Line.{Line}
pub use Rattle.arj_journal.specs.declared.header.Header.{Header}
pub use Rattle.arj_law.specs.Growth.{more}
pub use Rattle.arj_law.specs.Joined.{AreApart, AreCalled, call_behind, calls_behind, is_called, top_behind, tops_behind, values_after}
pub use Rattle.arj_model.specs.Actions.{Act, Begun, Placed, act_in, acts, acts_after, acts_from, begun_of, behind_first, chain_in}
pub use Rattle.arj_model.specs.Actions.{committed, committed_of, has_end, is_committed, numbered, path, put, read, recovered}
pub use Rattle.arj_model.specs.Actions.{recovered_of, root_in, top_in, upwards}
pub use Rattle.arj_model.specs.Book.{Answered, InOrder, IsAnsweredBy, StandInOrder, is_conflict, writes_before}
pub use Rattle.arj_model.specs.Calls.{Call, Said, Top, call_of, committed_calls, committing_of, committings, ids, kept, kept_in, root_or}
pub use Rattle.arj_model.specs.Calls.{said, said_of, top_by, top_of, tops}
pub use Rattle.arj_model.specs.Last.{Exclusion, Inclusion, changer_from, changers, entry_payload, entry_state, excluded_of, exclusion_by}
pub use Rattle.arj_model.specs.Last.{included}
pub use Rattle.arj_model.specs.Last.{included_of, increasing, is_among, joins_by, joins_of, leaves_of, listed, listed_after}
pub use Rattle.arj_model.specs.Last.{listed_from, object_line, same_list, serial_tops, servers_of_line, uid_of_id, writes_of}
pub use Rattle.arj_model.specs.Nested.{AnsweredInTime, FreedInOrder, IsFreedFor, commit_place, nested_calls}
pub use Rattle.arj_model.specs.Serial.{Answers, Serial, Values, after, arrange, insert, lex, run, serial_calls, serial_key, serial_less}
pub use Rattle.arj_model.specs.Serial.{top_place, writes_on}
pub use Rattle.arj_text.specs.Label.{name}
pub use Rattle.arj_text.specs.Words.{answer_text}
pub use Rattle.std.proofs.Common.{Bool, List, None, Option, Some, [], ap, append-nil, arith, cond, false, filter, length, length-append}
pub use Rattle.std.proofs.Common.{map, nat_lt, not, refl, subst, suc, sym, true, ℕ, ⊎_elim, ◌&&◌, ◌++◌, ◌+◌, ◌<◌, ◌==◌, ◌||◌, ◌∙◌, ◌∷◌, ◌≡◌}
pub use Rattle.std.proofs.Common.{◌≤◌}
pub use Rattle.std.proofs.lemmas.Bool.{and_cases, and_parts, eq-eqb, eqb-true, false_from_ne_true, lt-ltb, or_left, or_right}
pub use Rattle.std.proofs.lemmas.Bool.Decides.{nat_tests}
pub use Rattle.std.proofs.lemmas.List.{length-map}
pub use Rattle.std.proofs.lemmas.List.Elements.{filter-append, filter_map-append}
pub use Rattle.std.proofs.lemmas.List.Folds.{list_any-append}
pub use Rattle.std.specs.List.{AllByRecursion, cons_option, filter_map, list_all, list_any}
pub use Rattle.std.specs.Option.{option_map}
pub use Rattle.std.specs.Str.{bytes_eq}
pub use Rattle.arj_base.specs.declared.state.Class.TheVariants as class
pub use Rattle.arj_journal.specs.declared.body.Body.TheVariants as body
pub use Rattle.arj_journal.specs.declared.body.Kind.TheVariants as kind
