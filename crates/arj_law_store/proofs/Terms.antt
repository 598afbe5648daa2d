-- What the proofs of this crate name of its own definitions and of the crates below, passed on from one place.
-- Declares nothing.
pub use Rattle.arj_base.proofs.Packed.{state_once}
pub use Rattle.arj_base.proofs.Uids.{uid_is, uid_other, uid_same, uid_sym}
pub use Rattle.arj_base.specs.Order.{uid_order}
pub use Rattle.arj_base.specs.Rows.{is_on}
pub use Rattle.arj_base.specs.State.{StateInForm, state_bytes}
pub use Rattle.arj_base.specs.Uid.{uid_eq}
pub use Rattle.arj_base.specs.declared.state.ObjectState.{ObjectState}
pub use Rattle.arj_base.specs.declared.uid.Uid.{Uid}
pub use Rattle.arj_disk.specs.Says.{names, new_of}
pub use Rattle.arj_law_store.specs.store.Files.{IsPairOf}
pub use Rattle.arj_protocol.specs.Effect.{Pair, held_at, holder_of}
pub use Rattle.arj_protocol.specs.Order.{at_uid, put_uid, with_uid, without_uid}
pub use Rattle.arj_store.specs.Pair.{packed, uid_of}
pub use Rattle.std.proofs.Common.{Bool, List, None, Option, Some, [], ap, arith, cond, false, get_or, length, map, not, refl, subst, suc}
pub use Rattle.std.proofs.Common.{sym, true, zero, ℕ, ⊎_elim, ◌<◌, ◌||◌, ◌∙◌, ◌∷◌, ◌≡◌, ◌≢◌, ◌⊎◌}
pub use Rattle.std.proofs.lemmas.Slice.Eq.{bytes_eq-Decides}
pub use Rattle.std.specs.List.{AllByRecursion}
pub use Rattle.std.specs.Map.{keys_of}
pub use Rattle.std.specs.Ordering.{is_eq, match_ordering}
pub use Rattle.std.specs.Prelude.{Contains, IfSome, IsSome, MatchOption, is_some, option_map, unwrap_or}
pub use Rattle.std.specs.Str.{bytes_eq}
pub use Rattle.std.specs.declared.cmp.Ordering.{Ordering}
pub use Rattle.std.specs.declared.cmp.Ordering.TheVariants.{Equal, Greater, Less}
pub use Rattle.arj_store.specs.Pair as files
