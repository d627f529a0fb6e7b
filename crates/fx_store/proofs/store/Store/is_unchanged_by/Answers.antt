use Rattle.fx_store.proofs.Leaving.{unchanged-mark, unchanged-put, unchanged-delete}
use Rattle.fx_store.proofs.store.Store.is_unchanged_by.Goals as goal

pub returns-in-InSync : goal.returns-in-InSync
returns-in-InSync c = unchanged-mark c.args.self.now.resources c.args.update.now c.in-InSync.is

pub returns-in-Put : goal.returns-in-Put
returns-in-Put c =
    unchanged-put c.args.self.now.resources c.args.update.now c.in-Put.key c.in-Put.item c.in-Put.is c.requires c.has.result c.has.ensures

pub returns-in-Delete : goal.returns-in-Delete
returns-in-Delete c =
    unchanged-delete c.args.self.now.resources c.args.update.now c.in-Delete.key c.in-Delete.is c.lacks.result c.lacks.ensures
