-- The top of what was asked, by the lines.
use Rattle.arj_law_parts.proofs.Words
use Words.{⊤, ◌≡◌, ◌∙◌, ◌==◌, ◌&&◌, ◌||◌, ◌++◌, ◌+◌, not, ℕ, zero, suc, Bool, true, false, cond, filter, find, if◌then◌else◌, List, []}
use Words.{◌∷◌, length}
use Words.{inl, inr, ⊎_elim, ◌⊎◌, actor, grant_row, in_filter, in_map, put_number, rows_by, stronger, Post, take, Option, Some, None}
use Words.{refl, sym, ap, subst, and_parts, eqb-true, eq-eqb, list_all, list_any, nat_le, option_map, In, in_from, uid_eq, uid_is}
use Words.{uid_same, entry, mode_code, is_row_of, is_against, first_conflict, is_serial, last_uid, uids_of, top_of, top_path, tops_of}
use Words.{object}
use Words.{Ask, Binding, Body, BoundReply, Entry, Event, Head, Header, Line, Message, Mode, ObjectState, Path, Reply, Row, Start, Uid, asks}
use Words.{asked_by, response, Disk, Do, Effect, Pair, Prep, Say, Send, Served, void, Counted, Live, Made, Named, bind_call, bind_made}
use Words.{bind_named, conflict_on, include_asked, is_granted, is_over, listed_entry, live_above, live_asked, lock_lines, made_above}
use Words.{make_asked}
use Words.{at_number, at_uid, either, is_on, is_prepared, on_counted, prepare_answer, reply, confirm, Naming, Did, Handled, Parts, Took}
use Words.{Void}
use Words.{handle, handle_ask, if_naming, sends_answer, serve, served, with_naming, AreAll, is_coord_effect, is_coord_line}
use Words.{is_server_effect}
use Words.{is_server_line, invoke_own, acts as does, acts_own, again_all, again_own, all_both, begin_action, holders, map, numbered}
use Words.{parent_of}
use Words.{query_about, restart_outs, tick_outs, tolds_again, tolds_again_own, Seen, World, name}
use Words.ask
use Words.body
use Words.event
use Words.input
use Words.list
use Words.mode
use Words.naming
use Words.part
use Words.server
use Rattle.arj_law_runs.proofs.journal.{Closed.one_act, Models.AreSound, Models.in_later, Models.its_sound}
use Rattle.arj_law_runs.proofs.kept.Walked.{same_number}
use Rattle.arj_law_runs.specs.journal.Book.{new_book}
use Rattle.arj_law_runs.specs.journal.Right.{AreRight}
use Rattle.arj_law_serial.proofs.Terms
use Terms.{Act, acts, acts_more, path, path_by, uids}
use Rattle.arj_law_serial.proofs.joint.Called.{right_front}
use Rattle.arj_law_serial.proofs.order.Paths.{found, has_top, well as well_formed}
use Rattle.arj_model.specs.Actions.{top_in, tops_in}
use Rattle.arj_model.specs.CauseSpans.{holds_in, is_top_in, top_uids}
use Rattle.arj_law_cause.proofs.follow.lines.Numbers.{in_path}
use Rattle.arj_law_cause.proofs.rows.Paths.{label_path, some_is, uid_of_top}

take_twice : (n : ℕ) (us : List Uid) → take n (take n us) ≡ take n us
take_twice zero us = refl
take_twice (suc n) [] = refl
take_twice (suc n) (u ∷ us) = λ i. u ∷ take_twice n us i

plain_top : (k : Words.Kind) → Rattle.arj_law_runs.specs.journal.Book.is_top k ≡ true → is_serial k ≡ false
plain_top Words.kind.Serial is = absurd (cc is)
plain_top Words.kind.Top is = refl
plain_top Words.kind.Nested is = refl
plain_top Words.kind.Constituent is = refl
plain_top Words.kind.Independent is = refl

-- a path's top is on it
top_among : (q : List Act) (t : Act) → top_in q ≡ Some t → In t q
top_among [] t is = absurd (cc is)
top_among (a ∷ []) t is = by (is_serial a.kind) is
  where
    by : (b : Bool) → cond b None (Some a) ≡ Some t → In t (a ∷ [])
    by true is = absurd (cc is)
    by false is = inl (some_is is)
top_among (a ∷ b ∷ rest) t is = by (is_serial a.kind) is
  where
    by : (c : Bool) → cond c (Some b) (Some a) ≡ Some t → In t (a ∷ b ∷ rest)
    by true is = inr (inl (some_is is))
    by false is = inl (some_is is)

-- the top of what was asked, by the lines
pub record IsTopBy (ls : List Line) (p : Path) : Type 0 where
  pub top : Act
  pub there : In top (acts ls)
  pub uid : top.uid ≡ top_of p
  pub its_path : top_uids (path (acts ls) top.label) ≡ top_path p
  pub first : is_top_in top (path (acts ls) top.label) ≡ true

-- the path that the lines have of the top
abbrev pub HasTopPath : List Act → Path → Type 0
HasTopPath xs p = (uids (path_by xs (top_of p)) ≡ top_path p) × (tops_in (path_by xs (top_of p)) ≡ tops_of p)

-- who was the top of what was asked
module _ (ls : List Line) (right : AreRight new_book ls) (T : Act) (first more : List Line) (are : ls ≡ first ++ more) (l : List ℕ)
    (its : top_in (path (acts first) l) ≡ Some T) where
  pub top_there : In T (acts ls)
  top_there = subst (λ xs. In T xs) (sym (ap acts are ∙ acts_more [] first more))
      (in_later more (acts first) T (in_path (acts first) l T (top_among (path (acts first) l) T its)))

  pub top_plain : is_serial T.kind ≡ false
  top_plain =
      let s = its_sound first (right_front new_book first more (subst (AreRight new_book) are right)) in
      let w = (well_formed (acts first) s.formed l).0 in plain_top T.kind (w.tops T its)

-- an action that isn't serializing, and has the Uid of a path's top, is that
module _ (ls : List Line) (right : AreRight new_book ls) (p : Path) (fits : HasTopPath (acts ls) p) (T : Act) (among : In T (acts ls))
    (plain : is_serial T.kind ≡ false) (uid : T.uid ≡ top_of p) where
  sound : AreSound (acts ls)
  sound = its_sound ls right

  path_is : path (acts ls) T.label ≡ path_by (acts ls) (top_of p)
  path_is = label_path (acts ls) sound.distinct T.label T (found (acts ls) sound.distinct T among) ∙ ap (path_by (acts ls)) uid

  tops_are : top_uids (path (acts ls) T.label) ≡ top_path p
  tops_are = ap top_uids path_is ∙ (λ i. take (fits.1 i) (fits.0 i)) ∙ take_twice (tops_of p) (uids_of p)

  is_first : is_top_in T (path (acts ls) T.label) ≡ true
  is_first =
      let e = (well_formed (acts ls) sound.formed T.label).1 T (found (acts ls) sound.distinct T among) in
      let t = has_top e.before T plain in
      let its_top : top_in (path (acts ls) T.label) ≡ Some t.0 = ap top_in e.are ∙ t.1 in
      let t_there : In t.0 (acts ls) = in_path (acts ls) T.label t.0 (top_among (path (acts ls) T.label) t.0 its_top) in
      let same : t.0 ≡ T = one_act (acts ls) sound.distinct t.0 T t_there among
      (uid_of_top (path (acts ls) T.label) t.0 its_top ∙ ap last_uid tops_are ∙ sym uid) in
      ap (holds_in (λ (top : Act). top.id == T.id)) its_top ∙ ap (λ (z : Act). z.id == T.id) same ∙ same_number T.id

  pub is_top_by : IsTopBy ls p
  is_top_by = record { top = T; there = among; uid = uid; its_path = tops_are; first = is_first }
