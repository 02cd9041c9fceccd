use Rattle.shelf_laws.proofs.Handing.{put_keeps, put_ready}
use Rattle.shelf_laws.proofs.put_law.Goals as goal

pub returns-clause-lawful : goal.returns-clause-lawful
returns-clause-lawful c s w content may k = (put_keeps s w may.0 may.1 content k may.2).0

pub returns-clause-ready : goal.returns-clause-ready
returns-clause-ready c s w content may k = (put_keeps s w may.0 may.1 content k may.2).1

pub returns-clause-room : goal.returns-clause-room
returns-clause-room c s w content may = put_ready s w may.0 may.1 content may.2
