-- The strings found are counted.
use Rattle.std.proofs.Common.{◌≡◌, Some}
use Rattle.aff_tables.proofs.SymbolLaws.{table_counted}
use Rattle.aff_tables.proofs.symbols.symbol_table.Goals as goal

pub returns-clause-value : goal.returns-clause-value
returns-clause-value c =
    let a = c.args in
    let few : c.split.result ≡ Some c.in_ok-count.count = cc (c.in_ok-count.was) in
    (table_counted a.edition a.records a.image.now a.from a.size a.places.now c.split.new.places c.requires.room c.split.ensures.value c.split.ensures.places_after few c.counted.ensures).0
