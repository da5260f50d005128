use Rattle.std.proofs.Common.{◌≡◌, [], ◌++◌, List, take, get_or, length, ◌<◌, sym, ap, subst, ◌∙◌, arith}
use Rattle.gg_ast.specs.Tree.{ModuleTree, names_of}
use Rattle.gg_shape_names.specs.Repetitions.{repeated_in, repeated_declarations, repeated_module}
use Rattle.gg_shape_names.proofs.AlongLemmas.{left-more}
use Rattle.gg_shape_names.proofs.FindLemmas.{told-next}
use Rattle.gg_shape_names.proofs.namespace.tables_of.Goals as goal

pub loop-module-preserved : goal.loop-module-preserved
loop-module-preserved c =
    let modules = c.args.circuit.now.modules in
    let i = c.loop-module.module-index in
    let m = c.module-item.result in
    let is : m ≡ get_or modules i m = c.module-item.is ∙ ap (λ (l : List ModuleTree). get_or l i m) c.modules-module-items.ensures in
    let lt : i < length modules = subst (λ (l : List ModuleTree). i < length l) c.modules-module-items.ensures c.loop-module-test.true in
    let place : c.len.result ≡ i = omega (arith, c.len.ensures, c.loop-module.invariant.told.one_each) in
    let header : repeated_in (names_of (take i modules)) m.line m.name ≡ [] =
    ap (λ n. repeated_in (names_of (take n modules)) m.line m.name) (sym place) ∙ c.in_ok-module_is_new.ensures in
    let none : repeated_module (take i modules) m ≡ [] = ap (λ l. l ++ repeated_declarations m) header ∙ c.in_ok-table.ensures.tells in
    record {
      told = told-next modules i m c.loop-module.tables.items c.push.new.self.items c.in_ok-table.table lt is c.in_ok-table.ensures.table c.in_default.ensures.items c.loop-module.invariant.told;
      left_is = left-more repeated_module modules i m lt is none c.loop-module.invariant.left_is;
    }
