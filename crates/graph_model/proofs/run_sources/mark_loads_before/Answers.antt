use Rattle.std.proofs.Common.{◌≡◌, ◌≤◌, ◌<◌, ◌+◌, ◌∙◌, ℕ, List, length, get_or, arith, sym, ap, subst}
use Rattle.std.proofs.lemmas.List.{get_or_default}
use Rattle.std.specs.Prelude.{Option, Some, None}
use Rattle.test_lang.specs.declared.op.Action.{Action}
use Rattle.test_lang.specs.Program.{Program, at_action, op_count}
use Rattle.graph_model.specs.declared.kinds.Kind.TheVariants.{LoadOfWord}
use Rattle.graph_model.specs.FewKept.{is_kind}
use Rattle.graph_model.specs.NearestNodes.{last_node}
use Rattle.graph_model.specs.WordLoads.{last_load}
use Rattle.graph_model.proofs.Near.{last_below-some}
use Rattle.graph_model.proofs.RunSources.{GivesItself, itself_of_word, all_before, marks_from_end, marks_from_load, marks_from_none, next_load}
use Rattle.graph_model.proofs.WordLoads.{above, above-le}
use Rattle.graph_model.proofs.run_sources.mark_loads_before.Goals as goal

-- what was found is below
load_below : (p : Program) (m load : ℕ) (action : Action) → last_load p m action ≡ Some load → load < m
load_below p m load action e = (last_below-some (at_action (λ node. is_kind LoadOfWord action node.1) p) m load e).below

-- an entry that was read
entry : (items : List (Option ℕ)) (load : ℕ) (read : Option ℕ) → load < length items → read ≡ get_or items load read → read ≡ get_or items load None
entry items load read lt e = e ∙ get_or_default items load read None lt

above_falls : (p : Program) (load : ℕ) (action : Action) (old new : Option ℕ) → old ≡ Some load → new ≡ last_load p load action → above new < above old
above_falls p load action old new is told =
    let le : above new ≤ load = subst (λ (found : Option ℕ). above found ≤ load) (sym told) (above-le (at_action (λ node. is_kind LoadOfWord action node.1) p) load) in
    let was : above old ≡ load + 1 = ap above is in
    omega (arith, le, was)

pub loop-next-init : goal.loop-next-init
loop-next-init c =
    let p = c.args.test.now in
    record {
      from = op_count p;
      within = omega arith;
      action = c.action.result;
      found = c.action.ensures.found;
      next_is = c.of-next.ensures (last_node p (op_count p)) c.requires.loads.last;
      marked = marks_from_end p c.args.store c.action.result c.action.ensures.found c.args.mark c.args.marks.now (GivesItself p c.args.run.now c.args.store)
          (itself_of_word p c.args.run.now c.args.store c.action.result c.requires.inside c.action.ensures.found);
    }

pub mark_load-requires-clause-load : goal.mark_load-requires-clause-load
mark_load-requires-clause-load c =
    let i = c.loop-next.invariant in
    let within = i.within in
    let lt = load_below c.args.test.now i.from c.in-Some.load i.action (sym i.next_is ∙ c.in-Some.is) in
    omega (arith, within, lt)

pub index-next-requires : goal.index-next-requires
index-next-requires c =
    let i = c.loop-next.invariant in
    let within = i.within in
    let lt = load_below c.args.test.now i.from c.in-Some.load i.action (sym i.next_is ∙ c.in-Some.is) in
    let room = c.requires.loads.room in
    omega (arith, within, lt, room)

pub loop-next-smaller : goal.loop-next-smaller
loop-next-smaller c =
    let p = c.args.test.now in
    let i = c.loop-next.invariant in
    let load = c.in-Some.load in
    let e = sym i.next_is ∙ c.in-Some.is in
    let within = i.within in
    let room = c.requires.loads.room in
    let lt = load_below p i.from load i.action e in
    let own = next_load p i.action i.from load e in
    let next : c.index-next.result.now ≡ last_load p load i.action =
    entry c.args.loads.now.before.items load c.index-next.result.now (omega (arith, lt, within, room)) c.index-next.ensures ∙ c.requires.loads.before load own.0 own.1 ∙ own.2 in
    above_falls p load i.action c.loop-next.next c.index-next.result.now c.in-Some.is next

pub loop-next-preserved : goal.loop-next-preserved
loop-next-preserved c =
    let p = c.args.test.now in
    let i = c.loop-next.invariant in
    let load = c.in-Some.load in
    let e = sym i.next_is ∙ c.in-Some.is in
    let lt = load_below p i.from load i.action e in
    let within = i.within in
    let room = c.requires.loads.room in
    let own = next_load p i.action i.from load e in
    record {
      from = load;
      within = omega (arith, lt, within);
      action = i.action;
      found = i.found;
      next_is =
          entry c.args.loads.now.before.items load c.index-next.result.now (omega (arith, lt, within, room)) c.index-next.ensures
          ∙ c.requires.loads.before load own.0 own.1
          ∙ own.2;
      marked = marks_from_load p c.args.store i.action i.found c.args.mark c.args.marks.now (GivesItself p c.args.run.now c.args.store)
          (itself_of_word p c.args.run.now c.args.store i.action c.requires.inside i.found) i.from load c.loop-next.marks c.mark_load.new.marks e i.marked c.mark_load.ensures;
    }

pub returns : goal.returns
returns c =
    let p = c.args.test.now in
    let i = c.loop-next.invariant in
    all_before p c.args.run.now c.args.store c.args.mark c.args.marks.now c.loop-next.marks
    (marks_from_none p c.args.store i.action i.found c.args.mark c.args.marks.now (GivesItself p c.args.run.now c.args.store)
    (itself_of_word p c.args.run.now c.args.store i.action c.requires.inside i.found) i.from c.loop-next.marks (sym i.next_is ∙ c.in_default.is) i.marked)
