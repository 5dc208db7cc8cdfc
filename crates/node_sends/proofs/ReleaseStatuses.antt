-- What of release_statuses may go to another thread.
use denote.Param.Send.{IsSend, IsSync, view_send, view_sync, sendable}
use denote.Param.SendFields.{declared_send, declared_sync, variants_send, variants_sync}
use Rattle.std.proofs.Crossing.{crosses}
use Rattle.indexmap.proofs.map.IndexMap.TheSendSync as map
use Rattle.node_sends.proofs.ReleaseTable as release_table
use Rattle.release_statuses.proofs.status.Status.TheSendSync as status
use Rattle.release_statuses.specs.contracts.by_version.ByVersion as ByVersion
use Rattle.release_statuses.specs.contracts.by_version.ByVersion.TheInside as ByVersionInside
use Rattle.release_statuses.specs.contracts.by_version.TakenOut as TakenOut
use Rattle.release_statuses.specs.contracts.by_version.TakenOut.TheInside as TakenOutInside
use Rattle.release_statuses.specs.contracts.listed.Listed as Listed
use Rattle.release_statuses.specs.contracts.releases.Releases as Releases
use Rattle.release_statuses.specs.contracts.releases.Releases.TheInside as ReleasesInside
use Rattle.release_statuses.specs.contracts.undo.ReleasesUndo as ReleasesUndo
use Rattle.values.proofs.row.Row.TheSendSync as row

pub listed_send : IsSend Listed.the_row
listed_send = declared_send Listed.the_type (release_table.release_send, (status.the_send, tt))

pub listed_sync : IsSync Listed.the_row
listed_sync = declared_sync Listed.the_type (release_table.release_sync, (status.the_sync, tt))

by_version_fields_send : IsSend ByVersionInside.the_row
by_version_fields_send = declared_send ByVersionInside.the_type (
  search (
    map.the_send,
    listed_send,
    crosses,
    sendable,
  ) depth 60 fits 20000,
  tt,
)

by_version_send : IsSend ByVersion.the_row
by_version_send = view_send _ _ _ _ _ by_version_fields_send

releases_fields_send : IsSend ReleasesInside.the_row
releases_fields_send = declared_send ReleasesInside.the_type (
  search sendable depth 20,
  (by_version_send, tt),
)

pub releases_send : IsSend Releases.the_row
releases_send = view_send _ _ _ _ _ releases_fields_send

taken_out_fields_send : IsSend TakenOutInside.the_row
taken_out_fields_send = declared_send TakenOutInside.the_type (
  search (crosses, sendable) depth 60 fits 20000,
  (listed_send, tt),
)

pub taken_out_send : IsSend TakenOut.the_row
taken_out_send = view_send _ _ _ _ _ taken_out_fields_send

by_version_fields_sync : IsSync ByVersionInside.the_row
by_version_fields_sync = declared_sync ByVersionInside.the_type (
  search (
    map.the_sync,
    listed_sync,
    crosses,
    sendable,
  ) depth 60 fits 20000,
  tt,
)

by_version_sync : IsSync ByVersion.the_row
by_version_sync = view_sync _ _ _ _ _ by_version_fields_sync

releases_fields_sync : IsSync ReleasesInside.the_row
releases_fields_sync = declared_sync ReleasesInside.the_type (
  search sendable depth 20,
  (by_version_sync, tt),
)

pub releases_sync : IsSync Releases.the_row
releases_sync = view_sync _ _ _ _ _ releases_fields_sync

taken_out_fields_sync : IsSync TakenOutInside.the_row
taken_out_fields_sync = declared_sync TakenOutInside.the_type (
  search (crosses, sendable) depth 60 fits 20000,
  (listed_sync, tt),
)

pub taken_out_sync : IsSync TakenOut.the_row
taken_out_sync = view_sync _ _ _ _ _ taken_out_fields_sync

pub undo_send : IsSend ReleasesUndo.the_row
undo_send = variants_send ReleasesUndo.enum (
  tt,
  (
    (search sendable, (taken_out_send, tt)),
    (
      (
        search (
          status.the_send,
          row.the_send,
          crosses,
          sendable,
        ) depth 60 fits 20000,
        tt,
      ),
      tt,
    ),
  ),
)

pub undo_sync : IsSync ReleasesUndo.the_row
undo_sync = variants_sync ReleasesUndo.enum (
  tt,
  (
    (search sendable, (taken_out_sync, tt)),
    (
      (
        search (
          status.the_sync,
          row.the_sync,
          crosses,
          sendable,
        ) depth 60 fits 20000,
        tt,
      ),
      tt,
    ),
  ),
)
