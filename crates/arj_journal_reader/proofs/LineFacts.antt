-- The pieces of which lines are made, and the lines: which bytes their texts lack, and that no two have one text.
use Rattle.std.proofs.Common.{◌≡◌, [], ◌∷◌, ◌++◌, true, false, refl, arith, ◌⊎◌, inl, inr}
use Rattle.std.specs.Prelude.{◌==◌}
use Rattle.std.proofs.lemmas.Bool.{both_ways}
use Rattle.arj_journal.specs.declared.body.Body.{Body}
use Rattle.arj_journal.specs.declared.body.Body.TheVariants as body
use Rattle.arj_journal.specs.declared.body.Cause.{Cause}
use Rattle.arj_journal.specs.declared.body.Cause.TheVariants as cause
use Rattle.arj_journal.specs.declared.body.Difference.{Difference}
use Rattle.arj_journal.specs.declared.body.Difference.TheVariants as difference
use Rattle.arj_journal.specs.declared.line_kind.CauseKind.{CauseKind}
use Rattle.arj_journal.specs.declared.line_kind.CauseKind.TheVariants as cause_kind
use Rattle.arj_journal.specs.declared.line_kind.DifferenceKind.{DifferenceKind}
use Rattle.arj_journal.specs.declared.line_kind.DifferenceKind.TheVariants as difference_kind
use Rattle.arj_journal.specs.declared.line_kind.LineKind.{LineKind}
use Rattle.arj_journal.specs.declared.line_kind.LineKind.TheVariants as line
use Rattle.arj_journal_reader.specs.Form.{◌▸◌}
use Rattle.arj_journal.specs.declared.limits.TheConstants.{NODES, REFUSALS}
use Rattle.arj_journal_reader.specs.declared.pieces.Node.{Node}
use Rattle.arj_journal_reader.specs.declared.pieces.Object.{Object}
use Rattle.arj_journal_reader.specs.declared.pieces.Refusal.{Refusal}
use Rattle.arj_journal_reader.specs.declared.pieces.Sender.{Sender}
use Rattle.arj_journal_reader.specs.declared.pieces.Version.{Version}
use Rattle.arj_journal_reader.specs.declared.pieces.Word.{Word}
use Rattle.arj_text.specs.Fields.{IsWithin, NumberInForm, WordInForm}
use Rattle.arj_journal.specs.LineForm.{BodyInForm, CauseInForm, DifferenceInForm, NodeInForm, ObjectInForm, is_junk}
use Rattle.arj_journal_reader.specs.LineKinds.{node, sender, refusal, object, word, version, label, parent, uid, binding, hex_bytes, nodes}
use Rattle.arj_journal_reader.specs.LineKinds.{kind, part, role, frame, which, mode, ending, yes_no, difference_form, make_difference}
use Rattle.arj_journal_reader.specs.LineKinds.{differences, difference_piece, WordedCause, cause_form, make_cause, causes, cause_piece}
use Rattle.arj_journal_reader.specs.LineKinds.{line_form, make_body, lines, nothing}
use Rattle.arj_journal.specs.LineText.{body_text, cause_text, difference_text}
use Rattle.arj_journal.specs.LineWords.{cause_word, difference_word, frame_text, kind_text, line_word, part_text, role_text, which_text}
use Rattle.arj_journal.specs.LineWords.{yes_text}
use Rattle.arj_journal_reader.specs.Spellings.{IsKnown, cause_kinds, difference_kinds, ends, frame_kinds, kinds, known_cause_kinds}
use Rattle.arj_journal_reader.specs.Spellings.{known_difference_kinds, known_ends, known_frame_kinds, known_kinds, known_limits}
use Rattle.arj_journal_reader.specs.Spellings.{known_line_kinds, known_modes, known_parts, known_roles, limits, line_kinds, modes, parts}
use Rattle.arj_journal_reader.specs.Spellings.{roles}
use Rattle.arj_text.specs.Words.{end_text, mode_text}
use Rattle.arj_journal_reader.proofs.ByKind.{AreOfKinds, Seen}
use Rattle.arj_journal_reader.proofs.Calls.{call_facts}
use Rattle.arj_journal_reader.proofs.Facts.{HaveWords, PieceFacts, WordFacts, alone, behind, form_of, kinds_facts, known_facts, mixed_facts}
use Rattle.arj_journal_reader.proofs.Facts.{narrowed, numbered, spaceless, spaceless_words}
use Rattle.arj_journal_reader.proofs.Leaves.{binding_lacks, binding_once, hex_lacks, hex_once, known_once, label_lacks, label_once}
use Rattle.arj_journal_reader.proofs.Leaves.{parent_lacks, parent_once, uid_lacks, uid_once}
use Rattle.arj_journal_reader.proofs.NodeLists.{nodes_lack, nodes_once}

-- The pieces that are one word.
a_node : WordFacts node
a_node = numbered Node (λ n. n.number) (λ n. NodeInForm n.number) (λ n h. omega (arith, h.1)) (λ m n e i. record { number = e i })

a_sender : WordFacts sender
a_sender = numbered Sender (λ n. n.number) (λ n. IsWithin 0 NODES n.number) (λ n h. omega (arith, h.1)) (λ m n e i. record { number = e i })

a_refusal : WordFacts refusal
a_refusal = numbered Refusal (λ n. n.number) (λ n. IsWithin 1 REFUSALS n.number) (λ n h. omega (arith, h.1)) (λ m n e i. record {
  number =
      e i;
})

an_object : WordFacts object
an_object = numbered Object (λ n. n.number) (λ n. ObjectInForm n.number) (λ n h. omega (arith, h.1)) (λ m n e i. record { number = e i })

a_word : WordFacts word
a_word = numbered Word (λ n. n.number) (λ n. WordInForm n.number) (λ n h. omega (arith, h)) (λ m n e i. record { number = e i })

a_version : WordFacts version
a_version = numbered Version (λ n. n.number) (λ n. NumberInForm n.number) (λ n h. h) (λ m n e i. record { number = e i })

a_label : WordFacts label
a_label = record { once = label_once; plain = label_lacks }

a_parent : WordFacts parent
a_parent = record {
  once = λ p q hp hq e. let same = parent_once p.label q.label hp hq e in λ i. record { label = same i };
  plain = λ k apart p h. parent_lacks k apart p.label h;
}

a_uid : WordFacts uid
a_uid = record { once = uid_once; plain = uid_lacks }

a_binding : WordFacts binding
a_binding = record { once = binding_once; plain = binding_lacks }

a_hex_bytes : WordFacts hex_bytes
a_hex_bytes = record {
  once = λ x y hx hy e. let same = hex_once x.bytes y.bytes hx hy e in λ i. record { bytes = same i };
  plain = λ k apart x h. hex_lacks k apart x.bytes h;
}

a_nodes : WordFacts nodes
a_nodes = record {
  once = λ ms ns hm hn e. let same = nodes_once ms.list ns.list hm hn e in λ i. record { list = same i };
  plain = λ k apart ns h. nodes_lack k apart ns.list h;
}

-- The pieces that are one of a few words.
a_kind : WordFacts kind
a_kind = known_facts kind_text kinds known_kinds refl

a_part : WordFacts part
a_part = known_facts part_text parts known_parts refl

a_role : WordFacts role
a_role = known_facts role_text roles known_roles refl

a_frame : WordFacts frame
a_frame = known_facts frame_text frame_kinds known_frame_kinds refl

a_which : WordFacts which
a_which = known_facts which_text limits known_limits refl

a_mode : WordFacts mode
a_mode = known_facts mode_text modes known_modes refl

an_ending : WordFacts ending
an_ending = known_facts end_text ends known_ends refl

yes_no_known : IsKnown yes_text (true ∷ false ∷ [])
yes_no_known true = refl
yes_no_known false = refl

a_yes_no : WordFacts yes_no
a_yes_no = known_facts yes_text (true ∷ false ∷ []) yes_no_known refl

-- What was had and what is there now.
seen_difference : (d : Difference) → DifferenceInForm d → Seen differences d
seen_difference (difference.Inc had now) h =
    record {
      kind = difference_kind.Inc;
      value = (record { number = had }, record { number = now });
      fits =
          (h.0, spaceless a_word (record { number = had }) h.0, h.1);
      made = refl;
    }
seen_difference (difference.Bind had now) h =
    record { kind = difference_kind.Bind; value = (had, now); fits = (h.0, spaceless a_binding had h.0, h.1); made = refl }

difference_fits : (k : DifferenceKind) (v : (difference_form k).Value) → (difference_form k).InForm v →
    DifferenceInForm (make_difference k v)
difference_fits difference_kind.Inc v h = (h.0, h.2)
difference_fits difference_kind.Bind v h = (h.0, h.2)

difference_spelled : (k : DifferenceKind) (v : (difference_form k).Value) →
    difference_text (make_difference k v) ≡ difference_word k ++ 32 ∷ (difference_form k).text v
difference_spelled difference_kind.Inc v = refl
difference_spelled difference_kind.Bind v = refl

difference_forms : (k : DifferenceKind) → PieceFacts (difference_form k)
difference_forms difference_kind.Inc = behind a_word (alone a_word)
difference_forms difference_kind.Bind = behind a_binding (alone a_binding)

words_of_differences : HaveWords differences difference_kinds
words_of_differences = record { known = known_difference_kinds; letters = refl }

pub differences_are : AreOfKinds differences DifferenceInForm difference_text
differences_are = record {
  spaceless = spaceless_words differences difference_kinds words_of_differences;
  apart = known_once difference_word difference_kinds known_difference_kinds;
  fits = difference_fits;
  spelled = difference_spelled;
  seen = seen_difference;
}

difference_facts : PieceFacts difference_piece
difference_facts =
    kinds_facts differences difference_kinds DifferenceInForm difference_text words_of_differences differences_are difference_forms

-- Why an action aborted.
seen_cause : (c : Cause) → WordedCause c → Seen causes c
seen_cause cause.Asked h = absurd (both_ways true h.1 refl)
seen_cause cause.Doomed h = absurd (both_ways true h.1 refl)
seen_cause (cause.Lost n) h = record { kind = cause_kind.Lost; value = record { number = n }; fits = h.0; made = refl }
seen_cause (cause.Conflict u m n) h =
    record {
      kind = cause_kind.Conflict;
      value = (u, (m, record { number = n }));
      fits =
          (h.0.0, spaceless a_uid u h.0.0, (tt, spaceless a_mode m tt, h.0.1));
      made = refl;
    }
seen_cause (cause.Changed n d) h =
    record {
      kind = cause_kind.Changed;
      value = (record { number = n }, d);
      fits =
          (h.0.0, spaceless a_node (record { number = n }) h.0.0, h.0.1);
      made = refl;
    }
seen_cause (cause.Old n x v) h =
    record {
      kind = cause_kind.Old;
      value = (record { number = n }, (record { number = x }, record { number = v }));
      fits =
          (h.0.0, spaceless a_node (record { number = n }) h.0.0, (h.0.1, spaceless an_object (record { number = x }) h.0.1, h.0.2));
      made = refl;
    }
seen_cause (cause.NoStores x) h = record { kind = cause_kind.NoStores; value = record { number = x }; fits = h.0; made = refl }
seen_cause (cause.Listed x n) h =
    record {
      kind = cause_kind.Listed;
      value = (record { number = x }, record { number = n });
      fits =
          (h.0.0, spaceless an_object (record { number = x }) h.0.0, h.0.1);
      made = refl;
    }

cause_fits : (k : CauseKind) (v : (cause_form k).Value) → (cause_form k).InForm v → WordedCause (make_cause k v)
cause_fits cause_kind.Asked v h = absurd v
cause_fits cause_kind.Doomed v h = absurd v
cause_fits cause_kind.Lost v h = (h, refl)
cause_fits cause_kind.Conflict v h = ((h.0, h.2.2), refl)
cause_fits cause_kind.Changed v h = ((h.0, h.2), refl)
cause_fits cause_kind.Old v h = ((h.0, h.2.0, h.2.2), refl)
cause_fits cause_kind.NoStores v h = (h, refl)
cause_fits cause_kind.Listed v h = ((h.0, h.2), refl)

cause_spelled : (k : CauseKind) (v : (cause_form k).Value) → cause_text (make_cause k v) ≡ cause_word k ++ 32 ∷ (cause_form k).text v
cause_spelled cause_kind.Asked v = absurd v
cause_spelled cause_kind.Doomed v = absurd v
cause_spelled cause_kind.Lost v = refl
cause_spelled cause_kind.Conflict v = refl
cause_spelled cause_kind.Changed v = refl
cause_spelled cause_kind.Old v = refl
cause_spelled cause_kind.NoStores v = refl
cause_spelled cause_kind.Listed v = refl

of_nothing : PieceFacts nothing
of_nothing = record { once = λ v w hv hw e. absurd v; endless = λ v h. absurd v }

cause_forms : (k : CauseKind) → PieceFacts (cause_form k)
cause_forms cause_kind.Asked = of_nothing
cause_forms cause_kind.Doomed = of_nothing
cause_forms cause_kind.Lost = alone a_node
cause_forms cause_kind.Conflict = behind a_uid (behind a_mode (alone a_node))
cause_forms cause_kind.Changed = behind a_node difference_facts
cause_forms cause_kind.Old = behind a_node (behind an_object (alone a_version))
cause_forms cause_kind.NoStores = alone an_object
cause_forms cause_kind.Listed = behind an_object (alone a_node)

words_of_causes : HaveWords causes cause_kinds
words_of_causes = record { known = known_cause_kinds; letters = refl }

pub causes_are : AreOfKinds causes WordedCause cause_text
causes_are = record {
  spaceless = spaceless_words causes cause_kinds words_of_causes;
  apart = known_once cause_word cause_kinds known_cause_kinds;
  fits = cause_fits;
  spelled = cause_spelled;
  seen = seen_cause;
}

-- the causes of one word
pub data BareCause : Type 0 where
  BareAsked : BareCause
  BareDoomed : BareCause

abbrev pub bare_cause : BareCause → Cause
bare_cause BareAsked = cause.Asked
bare_cause BareDoomed = cause.Doomed

bare_known : IsKnown (λ b. cause_text (bare_cause b)) (BareAsked ∷ BareDoomed ∷ [])
bare_known BareAsked = refl
bare_known BareDoomed = refl

pub either : (c : Cause) → CauseInForm c → ((b : BareCause) × (bare_cause b ≡ c)) ⊎ WordedCause c
either cause.Asked h = inl (BareAsked, refl)
either cause.Doomed h = inl (BareDoomed, refl)
either (cause.Lost n) h = inr (h, refl)
either (cause.Conflict u m n) h = inr (h, refl)
either (cause.Changed n d) h = inr (h, refl)
either (cause.Old n x v) h = inr (h, refl)
either (cause.NoStores x) h = inr (h, refl)
either (cause.Listed x n) h = inr (h, refl)

cause_facts : PieceFacts cause_piece
cause_facts =
    mixed_facts causes WordedCause CauseInForm cause_text (record {
      Bare = BareCause;
      bare = bare_cause;
      every =
          BareAsked ∷ BareDoomed ∷ [];
    })
    (record {
      are = causes_are;
      facts =
          kinds_facts causes cause_kinds WordedCause cause_text words_of_causes causes_are cause_forms;
      known =
          bare_known;
      letters = refl;
      either = either;
    })

-- The lines.
seen_body : (b : Body) → BodyInForm b → Seen lines b
seen_body (body.Began l k u p) h =
    record {
      kind = line.Began;
      value = (l, (k, (u, record { label = p })));
      fits =
          (h.0, spaceless a_label l h.0, (tt, spaceless a_kind k tt, (h.1, spaceless a_uid u h.1, h.2)));
      made = refl;
    }
seen_body (body.Ok l x p a) h =
    record {
      kind = line.Ok;
      value = (l, (record { number = x }, record { op = p; answer = a }));
      fits =
          (h.0, spaceless a_label l h.0, (h.1, spaceless an_object (record { number = x }) h.1, (h.2, h.3)));
      made = refl;
    }
seen_body (body.Includes l x n) h =
    record {
      kind = line.Includes;
      value = (l, (record { number = x }, record { number = n }));
      fits =
          (h.0, spaceless a_label l h.0, (h.1, spaceless an_object (record { number = x }) h.1, h.2));
      made = refl;
    }
seen_body (body.Conflict l u m n) h =
    record {
      kind = line.Conflict;
      value = (l, (u, (m, record { number = n })));
      fits =
          (h.0, spaceless a_label l h.0, (h.1, spaceless a_uid u h.1, (tt, spaceless a_mode m tt, h.2)));
      made = refl;
    }
seen_body (body.Lost l n) h =
    record { kind = line.Lost; value = (l, record { number = n }); fits = (h.0, spaceless a_label l h.0, h.1); made = refl }
seen_body (body.Changed l n d) h =
    record {
      kind = line.Changed;
      value = (l, (record { number = n }, d));
      fits =
          (h.0, spaceless a_label l h.0, (h.1, spaceless a_node (record { number = n }) h.1, h.2));
      made = refl;
    }
seen_body (body.Committing l) h = record { kind = line.Committing; value = l; fits = h; made = refl }
seen_body (body.Committed l) h = record { kind = line.Committed; value = l; fits = h; made = refl }
seen_body (body.Ended l) h = record { kind = line.Ended; value = l; fits = h; made = refl }
seen_body (body.Aborted l c) h = record { kind = line.Aborted; value = (l, c); fits = (h.0, spaceless a_label l h.0, h.1); made = refl }
seen_body (body.GaveUp l n) h =
    record { kind = line.GaveUp; value = (l, record { number = n }); fits = (h.0, spaceless a_label l h.0, h.1); made = refl }
seen_body (body.Excluded l x n) h =
    record {
      kind = line.Excluded;
      value = (l, (record { number = x }, record { number = n }));
      fits =
          (h.0, spaceless a_label l h.0, (h.1, spaceless an_object (record { number = x }) h.1, h.2));
      made = refl;
    }
seen_body (body.Granted n u o m) h =
    record {
      kind = line.Granted;
      value = (record { number = n }, (u, (o, m)));
      fits =
          (h.0, spaceless a_node (record { number = n }) h.0, (h.1, spaceless a_uid u h.1, (h.2, spaceless a_uid o h.2, tt)));
      made = refl;
    }
seen_body (body.Lowered n u o) h =
    record {
      kind = line.Lowered;
      value = (record { number = n }, (u, o));
      fits =
          (h.0, spaceless a_node (record { number = n }) h.0, (h.1, spaceless a_uid u h.1, h.2));
      made = refl;
    }
seen_body (body.Bound x b n) h =
    record {
      kind = line.Bound;
      value = (record { number = x }, (b, record { number = n }));
      fits =
          (h.0, spaceless an_object (record { number = x }) h.0, (h.1, spaceless a_binding b h.1, h.2));
      made = refl;
    }
seen_body (body.Active n x b) h =
    record {
      kind = line.Active;
      value = (record { number = n }, (record { number = x }, b));
      fits =
          (h.0, spaceless a_node (record { number = n }) h.0, (h.1, spaceless an_object (record { number = x }) h.1, h.2));
      made = refl;
    }
seen_body (body.Told n u e p) h =
    record {
      kind = line.Told;
      value = (record { number = n }, (u, (e, p)));
      fits =
          (h.0, spaceless a_node (record { number = n }) h.0, (h.1, spaceless a_uid u h.1, (tt, spaceless an_ending e tt, tt)));
      made = refl;
    }
seen_body (body.Prepared n u r) h =
    record {
      kind = line.Prepared;
      value = (record { number = n }, (u, r));
      fits =
          (h.0, spaceless a_node (record { number = n }) h.0, (h.1, spaceless a_uid u h.1, tt));
      made = refl;
    }
seen_body (body.Done n u r e) h =
    record {
      kind = line.Done;
      value = (record { number = n }, (u, (r, e)));
      fits =
          (h.0, spaceless a_node (record { number = n }) h.0, (h.1, spaceless a_uid u h.1, (tt, spaceless a_role r tt, tt)));
      made = refl;
    }
seen_body (body.Sent k s n f) h =
    record {
      kind = line.Sent;
      value = (record { number = k }, (record { number = s }, (record { number = n }, f)));
      fits = (
        (
          h.0,
          spaceless a_word (record {
            number =
                k;
          }) h.0,
          (
            h.1.0,
            spaceless a_sender (record {
              number =
                  s;
            }) h.1.0,
            (h.2, spaceless a_node (record { number = n }) h.2, tt),
          ),
        ),
        h.1.1,
      );
      made = refl;
    }
seen_body (body.Got k) h = record { kind = line.Got; value = record { number = k }; fits = h; made = refl }
seen_body (body.Void k) h = record { kind = line.Void; value = record { number = k }; fits = h; made = refl }
seen_body (body.Dropped k) h = record { kind = line.Dropped; value = record { number = k }; fits = h; made = refl }
seen_body (body.Halted n) h = record { kind = line.Halted; value = record { number = n }; fits = h; made = refl }
seen_body (body.Up n i) h =
    record {
      kind = line.Up;
      value = (record { number = n }, record { number = i });
      fits =
          (h.0, spaceless a_node (record { number = n }) h.0, h.1);
      made = refl;
    }
seen_body (body.Armed n) h = record { kind = line.Armed; value = record { number = n }; fits = h; made = refl }
seen_body (body.Recovered n u) h =
    record {
      kind = line.Recovered;
      value = (record { number = n }, u);
      fits =
          (h.0, spaceless a_node (record { number = n }) h.0, h.1);
      made = refl;
    }
seen_body (body.Refused c) h = record { kind = line.Refused; value = record { number = c }; fits = h; made = refl }
seen_body (body.Entry x v s t) h =
    record {
      kind = line.Entry;
      value = (record { number = x }, (record { number = v }, (record { list = s }, record { list = t })));
      fits = (
        h.0,
        spaceless an_object (record {
          number =
              x;
        }) h.0,
        (h.1, spaceless a_version (record { number = v }) h.1, (h.2, spaceless a_nodes (record { list = s }) h.2, h.3)),
      );
      made = refl;
    }
seen_body (body.Copy n x v u p) h =
    record {
      kind = line.Copy;
      value =
          (record { number = n }, (record { number = x }, (record { number = v }, (u, record { bytes = p }))));
      fits = (
        h.0,
        spaceless a_node (record {
          number =
              n;
        }) h.0,
        (
          h.1,
          spaceless an_object (record {
            number =
                x;
          }) h.1,
          (h.2, spaceless a_version (record { number = v }) h.2, (h.3, spaceless a_uid u h.3, h.4)),
        ),
      );
      made = refl;
    }
seen_body (body.Quiet b) h = record { kind = line.Quiet; value = b; fits = tt; made = refl }
seen_body (body.Bad n) h = record { kind = line.Bad; value = record { number = n }; fits = h; made = refl }
seen_body (body.Limit w) h = record { kind = line.Limit; value = w; fits = tt; made = refl }

body_fits : (k : LineKind) (v : (line_form k).Value) → (line_form k).InForm v → BodyInForm (make_body k v)
body_fits line.Began v h = (h.0, h.2.2.0, h.2.2.2)
body_fits line.Ok v h = (h.0, h.2.0, h.2.2.0, h.2.2.1)
body_fits line.Includes v h = (h.0, h.2.0, h.2.2)
body_fits line.Conflict v h = (h.0, h.2.0, h.2.2.2)
body_fits line.Lost v h = (h.0, h.2)
body_fits line.Changed v h = (h.0, h.2.0, h.2.2)
body_fits line.Committing v h = h
body_fits line.Committed v h = h
body_fits line.Ended v h = h
body_fits line.Aborted v h = (h.0, h.2)
body_fits line.GaveUp v h = (h.0, h.2)
body_fits line.Excluded v h = (h.0, h.2.0, h.2.2)
body_fits line.Granted v h = (h.0, h.2.0, h.2.2.0)
body_fits line.Lowered v h = (h.0, h.2.0, h.2.2)
body_fits line.Bound v h = (h.0, h.2.0, h.2.2)
body_fits line.Active v h = (h.0, h.2.0, h.2.2)
body_fits line.Told v h = (h.0, h.2.0)
body_fits line.Prepared v h = (h.0, h.2.0)
body_fits line.Done v h = (h.0, h.2.0)
body_fits line.Sent v h = (h.0.0, (h.0.2.0, h.1), h.0.2.2.0)
body_fits line.Got v h = h
body_fits line.Void v h = h
body_fits line.Dropped v h = h
body_fits line.Halted v h = h
body_fits line.Up v h = (h.0, h.2)
body_fits line.Armed v h = h
body_fits line.Recovered v h = (h.0, h.2)
body_fits line.Refused v h = h
body_fits line.Entry v h = (h.0, h.2.0, h.2.2.0, h.2.2.2)
body_fits line.Copy v h = (h.0, h.2.0, h.2.2.0, h.2.2.2.0, h.2.2.2.2)
body_fits line.Quiet v h = tt
body_fits line.Bad v h = h
body_fits line.Limit v h = tt

body_spelled : (k : LineKind) (v : (line_form k).Value) → body_text (make_body k v) ≡ line_word k ++ 32 ∷ (line_form k).text v
body_spelled line.Began v = refl
body_spelled line.Ok v = refl
body_spelled line.Includes v = refl
body_spelled line.Conflict v = refl
body_spelled line.Lost v = refl
body_spelled line.Changed v = refl
body_spelled line.Committing v = refl
body_spelled line.Committed v = refl
body_spelled line.Ended v = refl
body_spelled line.Aborted v = refl
body_spelled line.GaveUp v = refl
body_spelled line.Excluded v = refl
body_spelled line.Granted v = refl
body_spelled line.Lowered v = refl
body_spelled line.Bound v = refl
body_spelled line.Active v = refl
body_spelled line.Told v = refl
body_spelled line.Prepared v = refl
body_spelled line.Done v = refl
body_spelled line.Sent v = refl
body_spelled line.Got v = refl
body_spelled line.Void v = refl
body_spelled line.Dropped v = refl
body_spelled line.Halted v = refl
body_spelled line.Up v = refl
body_spelled line.Armed v = refl
body_spelled line.Recovered v = refl
body_spelled line.Refused v = refl
body_spelled line.Entry v = refl
body_spelled line.Copy v = refl
body_spelled line.Quiet v = refl
body_spelled line.Bad v = refl
body_spelled line.Limit v = refl

pub sent_facts : PieceFacts (word ▸ sender ▸ node ▸ frame)
sent_facts = behind a_word (behind a_sender (behind a_node (alone a_frame)))

body_facts : (k : LineKind) → PieceFacts (line_form k)
body_facts line.Began = behind a_label (behind a_kind (behind a_uid (alone a_parent)))
body_facts line.Ok = behind a_label (behind an_object call_facts)
body_facts line.Includes = behind a_label (behind an_object (alone a_node))
body_facts line.Conflict = behind a_label (behind a_uid (behind a_mode (alone a_node)))
body_facts line.Lost = behind a_label (alone a_node)
body_facts line.Changed = behind a_label (behind a_node difference_facts)
body_facts line.Committing = alone a_label
body_facts line.Committed = alone a_label
body_facts line.Ended = alone a_label
body_facts line.Aborted = behind a_label cause_facts
body_facts line.GaveUp = behind a_label (alone a_node)
body_facts line.Excluded = behind a_label (behind an_object (alone a_node))
body_facts line.Granted = behind a_node (behind a_uid (behind a_uid (alone a_mode)))
body_facts line.Lowered = behind a_node (behind a_uid (alone a_uid))
body_facts line.Bound = behind an_object (behind a_binding (alone a_node))
body_facts line.Active = behind a_node (behind an_object (alone a_binding))
body_facts line.Told = behind a_node (behind a_uid (behind an_ending (alone a_part)))
body_facts line.Prepared = behind a_node (behind a_uid (alone a_role))
body_facts line.Done = behind a_node (behind a_uid (behind a_role (alone an_ending)))
body_facts line.Sent = narrowed (λ v. (v.1.0.number == 0) ≡ is_junk v.1.1.1) sent_facts
body_facts line.Got = alone a_word
body_facts line.Void = alone a_word
body_facts line.Dropped = alone a_word
body_facts line.Halted = alone a_node
body_facts line.Up = behind a_node (alone a_word)
body_facts line.Armed = alone a_node
body_facts line.Recovered = behind a_node (alone a_uid)
body_facts line.Refused = alone a_refusal
body_facts line.Entry = behind an_object (behind a_version (behind a_nodes (alone a_nodes)))
body_facts line.Copy = behind a_node (behind an_object (behind a_version (behind a_uid (alone a_hex_bytes))))
body_facts line.Quiet = alone a_yes_no
body_facts line.Bad = alone a_word
body_facts line.Limit = alone a_which

words_of_lines : HaveWords lines line_kinds
words_of_lines = record { known = known_line_kinds; letters = refl }

pub bodies_are : AreOfKinds lines BodyInForm body_text
bodies_are = record {
  spaceless = spaceless_words lines line_kinds words_of_lines;
  apart = known_once line_word line_kinds known_line_kinds;
  fits = body_fits;
  spelled = body_spelled;
  seen = seen_body;
}

pub bodies_facts : PieceFacts (form_of Body BodyInForm body_text)
bodies_facts = kinds_facts lines line_kinds BodyInForm body_text words_of_lines bodies_are body_facts
