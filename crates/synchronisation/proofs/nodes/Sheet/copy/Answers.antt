-- The kinds, and in step the parameters.
use Rattle.synchronisation.specs.Members.{sheet_in}
use Rattle.synchronisation.proofs.Sheets.{part_put}
use Rattle.synchronisation.proofs.nodes.Sheet.copy.Goals as goal

pub returns-clause-nodes : goal.returns-clause-nodes
returns-clause-nodes c = λ ns between.
    let given = c.args in
    part_put given.self.now.tables.kinds.now given.self.now.tables.parameters.now ns given.from given.past (sheet_in given.self.now) between
    c.put.ensures.put c.put-2.ensures.put
