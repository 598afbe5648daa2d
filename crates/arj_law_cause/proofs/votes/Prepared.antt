-- The row of what is prepared, whole: a store prepares for a top whose commit was called what that has changed, and naming where it has
-- excluded a store, or includes one.
use Rattle.arj_law_parts.proofs.Words
use Words.{◌≡◌, ◌∙◌, ◌&&◌, ◌++◌, ◌+◌, not, ℕ, Bool, true, false, List, [], ◌∷◌, Option, Some, None, refl, sym, ap, subst}
use Words.{AllByRecursion, IfSome, inl, and_parts, list_all, map, numbered, journal_by}
use Words.{Ask, Body, Disk, Do, Effect, Say, Send, Head, Header, Line, Message, ObjectState, Parts, Post, Seen, Took, Uid, actor, asks}
use Words.{handle, In}
use Words.{again_all, begin_action, holders, parent_of, parts_in, query_about, restart_outs, tick_outs, tolds_again, with_coord, worked}
use Words.{acts as acts_of}
use Words.{acts_own, again_own, all_both, is_serial, tolds_again_own, AreAll, is_coord_effect, is_coord_line}
use Words.ask
use Words.body
use Words.input
use Words.role
use Rattle.arj_law_lock_view.proofs.Terms.{Up, Walks, given, posted, said, walks_both}
use Rattle.arj_law_parts.proofs.moves.Moving.{moves_asked}
use Rattle.arj_law_parts.specs.moves.Keeps.{KeepsAsked}
use Rattle.arj_law_parts.specs.moves.Seen as seen
use Rattle.arj_law_parts.specs.moves.Seen.{AreQuiet, is_quiet_line}
use Rattle.arj_law_parts.specs.steps.Spoken.{SaidIn}
use Rattle.arj_law_runs.proofs.Terms.{Act, acts, new_book}
use Rattle.arj_law_runs.proofs.journal.{Models.in_later, Models.its_sound, Models.right_before, Owners.acts_more}
use Rattle.arj_law_runs.specs.follow.Frames.{run_events}
use Rattle.arj_law_runs.specs.journal.Right.{AreRight}
use Rattle.arj_law_serial.proofs.holding.Says as saying
use Rattle.arj_model.specs.Calls.{committings}
use Rattle.arj_model.specs.CausePends.{changes, changes_any}
use Rattle.arj_model.specs.CauseSpans.{Here, act_by, holds_in}
use Rattle.arj_model.specs.Caused.{has_cause}
use Rattle.arj_model.specs.Refusals.{was_called}
use Rattle.arj_promise.specs.Runs.{HeaderFits, Run}
use Rattle.arj_law_cause.proofs.confirm.{Joined.IsEarly, Joined.early_before, Reached.Reached, Runs.runs_early}
use Rattle.arj_law_cause.proofs.kinds.Committed.{act_found, right_lines}
use Rattle.arj_law_cause.proofs.kinds.Lines.{tested_row}
use Rattle.arj_law_cause.proofs.kinds.Preparing.{is_called_so, called_run}
use Rattle.arj_law_cause.proofs.kinds.Tells.{AskPrepares, FitsEnds, SaysBy, is_of_ends, message_all}
use Rattle.arj_law_cause.proofs.votes.{Asks.AskChanged, Asks.AsksAreChanged, Asks.changed_keep, Growing.changes_more, Growing.changes_some}
use Rattle.arj_law_cause.proofs.votes.{Lines.AreFit, Lines.fit_at, Lines.fit_both, Lines.fit_each}
use Rattle.arj_law_cause.specs.kinds.Kinds.{is_prepared}
use Rattle.arj_law_cause.specs.kinds.Rows.{RowHolds}

-- ---- what a line says

-- for whom the line says that a store has prepared something
abbrev preparer : Body → Option Uid
preparer (body.Prepared n u role.Store) = Some u
preparer b = None

-- who has changed the object has this Uid
abbrev HasChanged : List Line → Uid → Type 0
HasChanged lines u = IsEarly lines → (a : Act) × In a (acts lines) × (a.uid ≡ u) × (x : ℕ) × (changes lines a.id x ≡ true)

abbrev IsChanged : List Line → Body → Type 0
IsChanged lines b = IfSome (preparer b) (HasChanged lines)

changed_later : (ls ms : List Line) (b : Body) → IsChanged ls b → IsChanged (ls ++ ms) b
changed_later ls ms b = by (preparer b)
  where
    by : (o : Option Uid) → IfSome o (HasChanged ls) → IfSome o (HasChanged (ls ++ ms))
    by None so = tt
    by (Some u) so = λ early. let z = so (early_before ls ms early) in (
      z.0,
      subst (In z.0) (sym (acts_more [] ls ms)) (in_later ms (acts ls) z.0 z.1),
      z.2,
      z.3,
      changes_more ls ms (let a = z.0 in a.id) z.3 z.4,
    )

other_so : (b : Body) → is_prepared b ≡ false → (lines : List Line) → IsChanged lines b
other_so (body.Prepared n u r) is lines = absurd (cc is)
other_so b is lines = tt

end_so : (lines : List Line) (b : Body) → is_of_ends b ≡ false → IsChanged lines b
end_so lines (body.Prepared n u r) is = absurd (cc is)
end_so lines b is = tt

quiet_so : (b : Body) → is_quiet_line b ≡ true → is_prepared b ≡ false
quiet_so (body.Prepared n u r) is = absurd (cc is)
quiet_so b is = refl

abbrev is_other : Body → Bool
is_other b = not (is_prepared b)

coord_other : (b : Body) → is_coord_line b ≡ true → is_other b ≡ true
coord_other (body.Prepared n u r) is = absurd (cc is)
coord_other b is = refl

other_line : (b : Body) → is_other b ≡ true → (lines : List Line) → IsChanged lines b
other_line b is = other_so b (off (is_prepared b) is)
  where
    off : (c : Bool) → not c ≡ true → c ≡ false
    off true e = absurd (cc e)
    off false e = refl

-- ---- lines so far

abbrev LinesChanged : Seen → Type 0
LinesChanged M = AreFit IsChanged [] M.lines

quiet_lines : (e : ℕ) (bs : List Body) (M : Seen) → AreQuiet bs → LinesChanged M → LinesChanged (said e bs M)
quiet_lines e bs M quiet h = fit_both IsChanged [] M.lines (numbered e bs) h (fit_each IsChanged M.lines e bs (each bs quiet))
  where
    each : (xs : List Body) → AreQuiet xs → AllByRecursion (λ b. (ls : List Line) → IsChanged ls b) xs
    each [] all = tt
    each (b ∷ xs) all = let p = and_parts (is_quiet_line b) (list_all is_quiet_line xs) all in (other_so b (quiet_so b p.0), each xs p.1)

one_line : (e : ℕ) (b : Body) (M : Seen) → IsChanged M.lines b → LinesChanged M → LinesChanged (said e (b ∷ []) M)
one_line e b M its h = fit_both IsChanged [] M.lines (numbered e (b ∷ [])) h (its, tt)

grown : (es : List Effect) (ls ms : List Line) → AllByRecursion (SaidIn (IsChanged ls)) es → AllByRecursion (SaidIn (IsChanged
    (ls ++ ms))) es
grown [] ls ms so = tt
grown (Say c ∷ es) ls ms so = (changed_later ls ms c so.0, grown es ls ms so.1)
grown (Do w ∷ es) ls ms so = (tt, grown es ls ms so.1)
grown (Send to m ∷ es) ls ms so = (tt, grown es ls ms so.1)

walk : (e k : ℕ) (v : Parts) (outs : List Effect) (d : Disk) (M : Seen) → AllByRecursion (SaidIn (IsChanged M.lines)) outs →
    LinesChanged M →
    Walks LinesChanged e k outs (Up LinesChanged k v) d M
walk e k v [] d M so h = h
walk e k v (Do w ∷ es) d M so h = ((λ how. one_line e (body.Halted k) M tt h), walk e k v es (worked w d) M so.1 h)
walk e k v (Say b ∷ es) d M so h = walk e k v es d (said e (b ∷ []) M) (grown es M.lines (numbered e (b ∷ [])) so.1) (one_line e b M so.0 h)
walk e k v (Send to m ∷ es) d M so h = λ more quiet. walk e k v es d (said e more (posted (record { from = k; to = to; message = m }) M))
    (grown es M.lines (numbered e more) so.1) (quiet_lines e more M quiet h)

others_said : (es : List Effect) → saying.All is_other es → (lines : List Line) → AllByRecursion (SaidIn (IsChanged lines)) es
others_said [] all lines = tt
others_said (Say b ∷ es) all lines =
    let p = and_parts (is_other b) (list_all (saying.says is_other) es) all in (other_line b p.0 lines, others_said es p.1 lines)
others_said (Do w ∷ es) all lines = (tt, others_said es all lines)
others_said (Send to m ∷ es) all lines = (tt, others_said es all lines)

coord_others : (es : List Effect) → AreAll is_coord_effect es → saying.All is_other es
coord_others = saying.kind_says is_other is_coord_effect is_coord_line (λ b. refl) coord_other

-- ---- a message

message_says : (hd : Header) (k : ℕ) (d : Disk) (t v : Parts) (from : ℕ) (m : Message) (outs : List Effect) (M : Seen) →
    AsksAreChanged hd M → seen.In (record { from = from; to = k; message = m }) M.sent → handle k d t from m ≡ Took v outs →
    AllByRecursion (SaidIn (IsChanged M.lines)) outs
message_says hd k d t v from m outs M asks_are there is =
    subst (SaysBy (IsChanged M.lines) (end_so M.lines)) is (message_all (IsChanged M.lines) (end_so M.lines) k d t from m fits)
  where
    P : Post
    P = record { from = from; to = k; message = m }

    so : AskChanged M.lines (asks m)
    so = (asks_are P there).0

    some : (h : Head) (states : List ObjectState) → AskChanged M.lines (Some (h, ask.Prepare states)) → HasChanged M.lines (actor h.path)
    some h [] its early = absurd (its.0 refl)
    some h (st ∷ states) its early = let z = its.1 early in (z.0, z.1, z.2, (let u = st.uid in u.num), z.3 st (inl refl))

    prepares : (h : Head) (a : Ask) → asks m ≡ Some (h, a) → AskPrepares (IsChanged M.lines) k h a
    prepares h a is_it = by a (subst (AskChanged M.lines) is_it so)
      where
        by : (b : Ask) → AskChanged M.lines (Some (h, b)) → AskPrepares (IsChanged M.lines) k h b
        by (ask.Prepare states) its = some h states its
        by (ask.Confirm grants excluded included) its = λ none. tt
        by (ask.Bind x y z) its = tt
        by (ask.Load x) its = tt
        by (ask.Activate x y) its = tt
        by (ask.Record x y z w) its = tt
        by (ask.Invoke x y z w q) its = tt
        by (ask.Vote x y z) its = tt

    fits : FitsEnds (IsChanged M.lines) k d t m
    fits = record {
      server = λ u e f c. tt;
      naming = λ u e f c. tt;
      store = λ u e c. tt;
      names = λ u e c. tt;
      orphans = λ u e o act c there on. tt;
      prepares = prepares;
    }

-- ---- in every run

module _ (hd : Header) (form : HeaderFits hd) where
  abbrev Base : Seen → Type 0
  Base M = Reached hd M × AsksAreChanged hd M

  beside : (e k : ℕ) (v : Parts) (outs : List Effect) (d : Disk) (M : Seen) → AllByRecursion (SaidIn (IsChanged M.lines)) outs →
      LinesChanged M → Walks Base e k outs (Up Base k v) d M →
      Walks (λ N. Base N × LinesChanged N) e k outs (Up (λ N. Base N × LinesChanged N) k v) d M
  beside e k v outs d M so h base = walks_both Base LinesChanged e k outs (Up Base k v) (Up LinesChanged k v) d M base
      (walk e k v outs d M so h)

  prepared_keep : KeepsAsked hd (λ M. Base M × LinesChanged M)
  prepared_keep = let keeps = changed_keep hd form in record {
    quiet = λ e bs M quiet g. (keeps.quiet e bs M quiet g.0, quiet_lines e bs M quiet g.1);
    stop = λ e k d live M g. (keeps.stop e k d live M g.0, one_line e (body.Halted k) M tt g.1);
    message = λ e k d t v from m outs M g there meant is. beside e k v outs d M (message_says hd k d t v from m outs M g.0.1 there is) g.1
        (keeps.message e k d t v from m outs M g.0 there meant is);
    act = λ e k d t i M is asks free g. let did = acts_of i d.intents t.coord in beside e k (with_coord t did.part) did.outs d M
        (others_said did.outs (coord_others did.outs (acts_own i d.intents t.coord)) M.lines) g.1 (keeps.act e k d t i M is asks free g.0);
    begin = λ e k d t l how parent M new may free g. let did = begin_action l how parent (parent_of parent t.coord) t.coord in
        let N = given l (record { node = k; serial = is_serial how }) M in beside e k (with_coord t did.part) did.outs d N
        (others_said did.outs (coord_others did.outs (acts_own (input.Begin l how parent) d.intents t.coord)) N.lines) g.1
        (keeps.begin e k d t l how parent M new may free g.0);
    tick = λ e k d t M g. let r = again_all t.coord.doings t.coord in
        let outs = tick_outs (record { number = k; disk = d; live = Some t }) t in beside e k (with_coord t r.part) outs d M
        (others_said outs (all_both (saying.says is_other) (r.outs ++ tolds_again t.coord.telling) (map query_about (holders d t))
        (all_both (saying.says is_other) r.outs (tolds_again t.coord.telling) (coord_others r.outs (again_own t.coord.doings t.coord))
        (coord_others (tolds_again t.coord.telling) (tolds_again_own t.coord.telling)))
        (saying.map_says is_other query_about (holders d t) (λ u. refl))) M.lines) g.1 (keeps.tick e k d t M g.0);
    restart = λ e k d M g. let outs = restart_outs hd k (d.inc + 1) d in beside e k (parts_in k (d.inc + 1) d) outs d M
        (others_said outs (saying.restart_says is_other hd k (d.inc + 1) d coord_other (λ is u o how. refl) (λ u. refl) refl) M.lines) g.1
        (keeps.restart e k d M g.0);
    first = λ st formed. (keeps.first st formed, tt);
  }

  lines_changed : (r : Run hd) → AreFit IsChanged [] (journal_by hd r)
  lines_changed r = let h = moves_asked hd (λ M. Base M × LinesChanged M) prepared_keep r in h.holds.1

-- ---- the row

record IsPreparedLine (before : List Line) (b : Body) : Type 0 where
  pub right : AreRight new_book before
  pub early : IsEarly before
  pub changed : IsChanged before b

to_row : (h : Here) (b : Body) → is_prepared b ≡ true → IsPreparedLine h.lines b → is_called_so h b ≡ true → has_cause h b ≡ true
to_row h (body.Prepared n u role.Names) its k is = is
to_row h (body.Prepared n u role.Store) its k is =
    let z = k.changed k.early in
    let found : act_by h.lines u ≡ Some z.0 =
    act_found (acts h.lines) (let s = its_sound h.lines k.right in s.distinct) z.0 z.1 u z.2 in
    ap (holds_in (λ (a : Act). was_called (committings h.lines) a.id && changes_any h.lines a.id)) found
    ∙ (λ i. (sym (ap (holds_in (λ (a : Act). was_called (committings h.lines) a.id)) found) ∙ is) i
    && changes_some h.lines (let a = z.0 in a.id) z.3 z.4 i)
to_row h b its k is = absurd (cc its)

pub prepared_row : RowHolds is_prepared
prepared_row hd r form = tested_row IsPreparedLine is_prepared is_called_so has_cause to_row (journal_by hd r)
    (λ before line behind is. record {
      right = (right_before new_book before line behind (subst (AreRight new_book) is (right_lines hd r))).0;
      early = early_before before (line ∷ behind) (subst IsEarly is (runs_early hd r form));
      changed = fit_at IsChanged [] before line behind (subst (AreFit IsChanged []) is (lines_changed hd form.header r));
    }) hd r.start (run_events hd r) (called_run hd r form)
