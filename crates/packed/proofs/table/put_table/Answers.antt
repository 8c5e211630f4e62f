use Rattle.packed.specs.Filling.{putting_none, putting_many}
use Rattle.packed.proofs.table.put_table.Goals.{else-t-le16-via-then-t-le16+else-t-bytes, else-t-le16-via-else-t-le16}
use Rattle.packed.proofs.table.put_table.Goals as goal

pub returns-else-t-le16 : goal.returns-else-t-le16
returns-else-t-le16 c = elim c.else-t-le16.branch [ else-t-le16-via-then-t-le16+else-t-bytes w ↦ putting_none _ _ _ w.if-t-bytes.false | else-t-le16-via-else-t-le16 w ↦ putting_many _ _ _ w.if-t-le16.false ]
