-- One step of each loop over a list.
use Rattle.std.proofs.Common.{◌≡◌, ◌<◌, ◌+◌, ◌++◌, ℕ, List, Option, length, drop, ap, sym, ◌∙◌}
use Rattle.std.specs.Prelude.{get_or}
use Rattle.std.proofs.lemmas.List.{at_drop_more, append_assoc}
use Rattle.arj_base.specs.declared.binding.Binding.{Binding}
use Rattle.arj_base.specs.declared.mode.End.{End}
use Rattle.arj_base.specs.declared.uid.Uid.{Uid}
use Rattle.arj_journal.specs.declared.body.Line.{Line}
use Rattle.arj_msg.specs.declared.message.Invoke.{Invoke}
use Rattle.arj_msg.specs.declared.message.What.{What}
use Rattle.arj_protocol.specs.Effect.{either}
use Rattle.arj_protocol.specs.Order.{at_number}
use Rattle.arj_protocol.specs.Server.{Server, apply_ends, changed_copy, end_one, first_unbound}
use Rattle.arj_server.proofs.Said.{said_more}
use Rattle.arj_server.specs.Calls.{ran}
use Rattle.arj_server.specs.Lines.{said}

-- the next object decides, or those behind it
pub unbound_step : (s : Server) (ts : List (ℕ × Binding)) (i : ℕ) (d : ℕ × Binding) (result found : Option What) → i < length ts
    → result ≡ changed_copy (get_or ts i d).1 (at_number (get_or ts i d).0 s.objects) → result ≡ found
    → either found (first_unbound (drop (i + 1) ts) s) ≡ first_unbound (drop i ts) s
unbound_step s ts i d result found lt is here =
    ap (λ o. either o (first_unbound (drop (i + 1) ts) s)) (sym here ∙ is) ∙ sym (at_drop_more (λ us. first_unbound us s) ts i d lt)

-- the next end is applied, and then those behind it
pub end_part : (n : ℕ) (s t : Server) (es : List (Uid × End)) (i : ℕ) (d : Uid × End) → i < length es
    → t ≡ (end_one n (get_or es i d).0 (get_or es i d).1 s).part →
    (apply_ends n (drop (i + 1) es) t).part ≡ (apply_ends n (drop i es) s).part
end_part n s t es i d lt is =
    ap (λ t. (apply_ends n (drop (i + 1) es) t).part) is ∙ sym (at_drop_more (λ fs. (apply_ends n fs s).part) es i d lt)

pub end_lines : (n : ℕ) (s t : Server) (es : List (Uid × End)) (i : ℕ) (d : Uid × End) (old new : List Line) → i < length es
    → t ≡ (end_one n (get_or es i d).0 (get_or es i d).1 s).part → new ≡ old ++ said (end_one n (get_or es i d).0 (get_or es i d).1 s).outs
    → new ++ said (apply_ends n (drop (i + 1) es) t).outs ≡ old ++ said (apply_ends n (drop i es) s).outs
end_lines n s t es i d old new lt is lines =
    let e = end_one n (get_or es i d).0 (get_or es i d).1 s in
    (λ j. lines j ++ said (apply_ends n (drop (i + 1) es) (is j)).outs)
    ∙ (append_assoc old (said e.outs) (said (apply_ends n (drop (i + 1) es) e.part).outs)
    ∙ (ap (λ more. old ++ more) (sym (said_more e.outs (apply_ends n (drop (i + 1) es) e.part).outs))
    ∙ sym (at_drop_more (λ fs. old ++ said (apply_ends n fs s).outs) es i d lt)))

-- the lines of the ends, and then those of the operation
pub invoke_lines : (n : ℕ) (m : Invoke) (s t : Server) (es : List (Uid × End)) (old mid new : List Line) → es ≡ m.ends →
    t ≡ (apply_ends n es s).part → mid ≡ old ++ said (apply_ends n es s).outs
    → new ≡ mid ++ said (ran n m t).outs → new ≡ old ++ said ((apply_ends n m.ends s).outs ++ (ran n m (apply_ends n m.ends s).part).outs)
invoke_lines n m s t es old mid new ends is first second =
    let d = apply_ends n es s in
    second
    ∙ ((λ j. first j ++ said (ran n m (is j)).outs)
    ∙ (append_assoc old (said d.outs) (said (ran n m d.part).outs)
    ∙ (ap (λ more. old ++ more) (sym (said_more d.outs (ran n m d.part).outs)) ∙ ap (λ es. old ++ said ((apply_ends n es s).outs ++ (ran n m (apply_ends n es s).part).outs)) ends)))
