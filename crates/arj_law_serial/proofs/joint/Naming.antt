-- Each decided top of the disk machine is a top of the journal.
use Rattle.arj_law_parts.proofs.Words
use Words.{◌≡◌, ℕ, true, List, [], ◌∷◌, refl, sym, ◌∙◌, ap, subst, inl, inr, filter, is_on, In, in_from, in_to, uid_number, Header, Line}
use Words.{World}
use Rattle.arj_law_serial.proofs.Terms
use Terms.{counts_of, Done, in_decided, book, is_top, new_book, AreDistinct, IsCommittedIn, IsDone, AreRight, IsOfNode, Stands, one_act}
use Terms.{stands_lines, stands_new, its_acts, its_sound, kept_nodes, kept_right, Act, acts, Top, tops, Keeping, IsOrderedSo}
use Terms.disk
use Terms.words
use Rattle.arj_law_disk.specs.machine.State.{State}
use Rattle.arj_law_parts.specs.moves.Keeps.{Holds}
use Rattle.arj_law_serial.proofs.joint.{Called.there_before, NamedTops.AreNamed, NamedTops.IsNamed, NamedTops.disk_of, NewWriters.its_uid}
use Rattle.arj_law_serial.proofs.order.Order.{same_number, top_for, top_item}

module _ (hd : Header) (w : World) (keeping : Keeping hd w) (x : ℕ) (h : Holds hd (IsOrderedSo hd x) w) where
  abbrev lines : List Line
  lines = w.lines

  abbrev S : State
  S = disk_of h.holds

  right : AreRight new_book lines
  right = kept_right hd w keeping

  stands : Stands (book lines)
  stands = stands_lines new_book lines right stands_new

  distinct : AreDistinct (acts lines)
  distinct = let s = its_sound lines right in s.distinct

  named : (d : Done) → words.In d S.tops → (b : Top) × IsNamed lines d b
  named d i =
      let whose = (let o = h.holds in let b = o.begun in let j = b.journalled in j.whose d.top (in_decided S.tops d i)) in
      let a : Act = whose.0 in
      let there : In a (acts lines) = in_from a (acts lines) whose.1 in
      let called : is_on (let B = book lines in B.called) a.uid ≡ true = (let o = h.holds in o.called d i a.uid whose.2) in
      let kind : is_top a.kind ≡ true = (let c = stands.closes in c.calls a (subst (In a) (sym (its_acts lines right)) there) called) in
      let n : IsOfNode w a = kept_nodes hd w keeping a whose.1 in
      let c : IsCommittedIn lines a.uid = (let o = h.holds in let b = o.begun in let j = b.journalled in
      j.said a.uid n.node n.there (ap (disk.decided S) whose.2 ∙ in_decided S.tops d i)) in
      let done : IsDone lines a = subst (IsDone lines) (one_act (acts lines) distinct c.0 a (in_from c.0 (acts lines) c.1) there c.2) c.3 in
      let b = top_for lines right a there kind done in
      let bi = top_item lines right b.0 b.1 in
      let same : bi.act ≡ a = same_number lines right bi.act a bi.there there (bi.number ∙ b.2) in (
        b.0,
        record {
          listed = in_to b.0 (tops lines) b.1;
          number = sym whose.2 ∙ ap uid_number (sym (its_uid lines right b.0 bi ∙ ap (λ (z : Act). z.uid) same));
        },
      )

  all_named : (ds : List Done) → ((d : Done) → words.In d ds → words.In d S.tops) → (those : List Top) × AreNamed lines ds those
  all_named [] each = ([], tt)
  all_named (d ∷ ds) each =
      let b = named d (each d (inl refl)) in
      let rest = all_named ds (λ e i. each e (inr i)) in
      (b.0 ∷ rest.0, (b.1, rest.1))

  -- those that count, in the order in which they were decided
  pub decided_named : (those : List Top) × AreNamed lines (filter counts_of S.tops) those
  decided_named = all_named (filter counts_of S.tops) (λ d i. there_before counts_of d S.tops i)
