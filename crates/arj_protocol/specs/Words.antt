-- The types of the crates below, and the words on them that the protocol uses, passed on from one place.
pub use Rattle.arj_base.specs.declared.uid.Uid.{Uid}
pub use Rattle.arj_base.specs.declared.binding.Binding.{Binding}
pub use Rattle.arj_base.specs.declared.path.Path.{Path}
pub use Rattle.arj_base.specs.declared.mode.Mode.{Mode}
pub use Rattle.arj_base.specs.declared.mode.End.{End}
pub use Rattle.arj_base.specs.declared.state.Class.{Class}
pub use Rattle.arj_base.specs.declared.state.Format.{Format}
pub use Rattle.arj_base.specs.declared.state.ObjectState.{ObjectState}
pub use Rattle.arj_base.specs.Order.{uid_order}
pub use Rattle.arj_base.specs.Uid.{uid_eq, nobody, object, entry}
pub use Rattle.arj_base.specs.Path.{uids_of, tops_of, first_uid, top_uid, before_last}
pub use Rattle.arj_base.specs.Rows.{Row, last_uid, front, is_on, grant_row, drop_rows, pass_rows, lower_row, is_held_by, is_row_of}
pub use Rattle.arj_base.specs.Rows.{first_conflict}
pub use Rattle.arj_base.specs.Mode.{stronger, mode_code, conflicting}
pub use Rattle.arj_base.specs.State.{class_code_of, head_of}
pub use Rattle.arj_class.specs.declared.op.Op.{Op}
pub use Rattle.arj_class.specs.declared.op.Answer.{Answer}
pub use Rattle.arj_class.specs.declared.value.Value.{Value}
pub use Rattle.arj_class.specs.Table.{class_of, own_class, has_op, op_mode, writes, answer_of, value_after}
pub use Rattle.arj_class.specs.Forms.{payload_of}
pub use Rattle.arj_entry.specs.declared.entry.Entry.{Entry}
pub use Rattle.arj_entry.specs.Entry.{entry_payload, is_listed, with_store, without_store}
pub use Rattle.arj_text.specs.declared.label.Label.{Label}
pub use Rattle.arj_text.specs.Label.{name, label_cmp}
pub use Rattle.arj_text.specs.Words.{answer_text}
pub use Rattle.arj_journal.specs.declared.body.Body.{Body}
pub use Rattle.arj_journal.specs.declared.body.Line.{Line}
pub use Rattle.arj_journal.specs.declared.body.Kind.{Kind}
pub use Rattle.arj_journal.specs.declared.body.Difference.{Difference}
pub use Rattle.arj_journal.specs.declared.body.Cause.{Cause}
pub use Rattle.arj_journal.specs.declared.body.Part.{Part}
pub use Rattle.arj_journal.specs.declared.body.Role.{Role}
pub use Rattle.arj_journal.specs.declared.body.FrameKind.{FrameKind}
pub use Rattle.arj_journal.specs.declared.body.Which.{Which}
pub use Rattle.arj_journal.specs.declared.header.Header.{Header}
pub use Rattle.arj_journal.specs.declared.header.ObjectLine.{ObjectLine}
pub use Rattle.arj_journal.specs.declared.event.Event.{Event}
pub use Rattle.arj_journal.specs.declared.event.FrameNo.{FrameNo}
pub use Rattle.arj_journal.specs.declared.event.StopKind.{StopKind}
pub use Rattle.arj_msg.specs.Head.{path_of}
pub use Rattle.arj_msg.specs.Ask.{asks, request}
pub use Rattle.arj_msg.specs.declared.ask.Ask.{Ask}
pub use Rattle.arj_msg.specs.declared.message.Message.{Message}
pub use Rattle.arj_msg.specs.declared.message.Head.{Head}
pub use Rattle.arj_msg.specs.declared.message.Asked.{Asked}
pub use Rattle.arj_msg.specs.declared.message.What.{What}
pub use Rattle.arj_msg.specs.declared.message.BoundReply.{BoundReply}
pub use Rattle.arj_msg.specs.declared.message.LoadedReply.{LoadedReply}
pub use Rattle.arj_msg.specs.declared.message.RecordedReply.{RecordedReply}
pub use Rattle.arj_msg.specs.declared.message.InvokedReply.{InvokedReply}
pub use Rattle.arj_msg.specs.declared.message.VotedReply.{VotedReply}
pub use Rattle.arj_msg.specs.declared.message.PreparedReply.{PreparedReply}
pub use Rattle.arj_msg.specs.declared.message.ConfirmedReply.{ConfirmedReply}
pub use Rattle.arj_base.specs.declared.mode.Mode.TheVariants as mode
pub use Rattle.arj_base.specs.declared.mode.End.TheVariants as ending
pub use Rattle.arj_base.specs.declared.state.Class.TheVariants as class
pub use Rattle.arj_base.specs.declared.state.Format.TheVariants as format
pub use Rattle.arj_class.specs.declared.op.Op.TheVariants as op
pub use Rattle.arj_class.specs.declared.op.Answer.TheVariants as answer
pub use Rattle.arj_class.specs.declared.value.Value.TheVariants as value
pub use Rattle.arj_journal.specs.declared.body.Body.TheVariants as body
pub use Rattle.arj_journal.specs.declared.body.Kind.TheVariants as kind
pub use Rattle.arj_journal.specs.declared.body.Difference.TheVariants as difference
pub use Rattle.arj_journal.specs.declared.body.Cause.TheVariants as cause
pub use Rattle.arj_journal.specs.declared.body.Part.TheVariants as part
pub use Rattle.arj_journal.specs.declared.body.Role.TheVariants as role
pub use Rattle.arj_journal.specs.declared.body.FrameKind.TheVariants as frame
pub use Rattle.arj_journal.specs.declared.body.Which.TheVariants as which
pub use Rattle.arj_journal.specs.declared.event.Event.TheVariants as event
pub use Rattle.arj_journal.specs.declared.event.FrameNo.TheVariants as frame_no
pub use Rattle.arj_journal.specs.declared.event.StopKind.TheVariants as stop_kind
pub use Rattle.arj_msg.specs.declared.ask.Ask.TheVariants as ask
pub use Rattle.arj_msg.specs.declared.message.Message.TheVariants as message
pub use Rattle.arj_msg.specs.declared.message.What.TheVariants as what
pub use Rattle.arj_msg.specs.declared.message.BoundReply.TheVariants as bound
pub use Rattle.arj_msg.specs.declared.message.LoadedReply.TheVariants as loaded
pub use Rattle.arj_msg.specs.declared.message.RecordedReply.TheVariants as recorded
pub use Rattle.arj_msg.specs.declared.message.InvokedReply.TheVariants as invoked
pub use Rattle.arj_msg.specs.declared.message.VotedReply.TheVariants as voted
pub use Rattle.arj_msg.specs.declared.message.PreparedReply.TheVariants as prepared
pub use Rattle.arj_msg.specs.declared.message.ConfirmedReply.TheVariants as confirmed
use Rattle.std.specs.Prelude.{ℕ, List, Result}
use Rattle.arj_msg.specs.Layout.{message as message_format}

-- a message read from the front of bytes
unfoldable pub read_message : List ℕ → Result (Message × List ℕ) ℕ
unfolding message_format
read_message bytes = message_format.read bytes
