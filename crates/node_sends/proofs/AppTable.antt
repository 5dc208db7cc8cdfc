-- What of app_table may go to another thread.
use denote.Param.Send.{IsSend, IsSync, view_send, view_sync, sendable}
use denote.Param.SendFields.{declared_send, declared_sync, variants_send, variants_sync}
use Rattle.std.proofs.Crossing.{crosses}
use Rattle.app_table.proofs.child.ChildState.TheSendSync as child_state
use Rattle.app_table.proofs.spot.Spot.TheSendSync as spot
use Rattle.app_table.proofs.undo.ChildProcess.TheSendSync as child_process
use Rattle.app_table.proofs.undo.Rerun.TheSendSync as rerun
use Rattle.app_table.specs.contracts.app.App as App
use Rattle.app_table.specs.contracts.app.App.TheInside as AppInside
use Rattle.app_table.specs.contracts.child.Child as Child
use Rattle.app_table.specs.contracts.children.Children as Children
use Rattle.app_table.specs.contracts.children.Children.TheInside as ChildrenInside
use Rattle.app_table.specs.contracts.name.ChildName as ChildName
use Rattle.app_table.specs.contracts.renewing.ChildEdit as ChildEdit
use Rattle.app_table.specs.contracts.specs.FormerSpecs as FormerSpecs
use Rattle.app_table.specs.contracts.specs.Replaced as Replaced
use Rattle.app_table.specs.contracts.table.AppTable as AppTable
use Rattle.app_table.specs.contracts.table.AppTable.TheInside as AppTableInside
use Rattle.app_table.specs.contracts.undo.PutBack as PutBack
use Rattle.app_table.specs.contracts.undo.AppsUndo as AppsUndo
use Rattle.app_table.specs.contracts.undo.Unloaded as Unloaded
use Rattle.erl_term.proofs.atom.Atom.TheSendSync as atom
use Rattle.few_lists.proofs.few.Few.TheSendSync as few
use Rattle.node_sends.proofs.ChildSpecs as child_specs
use Rattle.node_sends.proofs.ErlTerm as erl_term
use Rattle.node_sends.proofs.OtpFiles as otp_files
use Rattle.values.proofs.row.Row.TheSendSync as row

pub child_send : IsSend Child.the_row
child_send = declared_send Child.the_type (child_specs.child_spec_send, (child_state.the_send, tt))

pub child_sync : IsSync Child.the_row
child_sync = declared_sync Child.the_type (child_specs.child_spec_sync, (child_state.the_sync, tt))

children_fields_send : IsSend ChildrenInside.the_row
children_fields_send = declared_send ChildrenInside.the_type (
  search (child_send, crosses, sendable) depth 60 fits 20000,
  (search (crosses, sendable) depth 60 fits 20000, (search (crosses, sendable) depth 60 fits 20000, tt)),
)

pub children_send : IsSend Children.the_row
children_send = view_send _ _ _ _ _ children_fields_send

children_fields_sync : IsSync ChildrenInside.the_row
children_fields_sync = declared_sync ChildrenInside.the_type (
  search (child_sync, crosses, sendable) depth 60 fits 20000,
  (search (crosses, sendable) depth 60 fits 20000, (search (crosses, sendable) depth 60 fits 20000, tt)),
)

pub children_sync : IsSync Children.the_row
children_sync = view_sync _ _ _ _ _ children_fields_sync

app_fields_send : IsSend AppInside.the_row
app_fields_send = declared_send AppInside.the_type (otp_files.app_spec_send, (search sendable, (children_send, tt)))

pub app_send : IsSend App.the_row
app_send = view_send _ _ _ _ _ app_fields_send

app_fields_sync : IsSync AppInside.the_row
app_fields_sync = declared_sync AppInside.the_type (otp_files.app_spec_sync, (search sendable, (children_sync, tt)))

pub app_sync : IsSync App.the_row
app_sync = view_sync _ _ _ _ _ app_fields_sync

app_table_fields_send : IsSend AppTableInside.the_row
app_table_fields_send = declared_send AppTableInside.the_type (
  search sendable depth 20,
  (
    search (
      app_send,
      crosses,
      sendable,
    ) depth 60 fits 20000,
    tt,
  ),
)

pub app_table_send : IsSend AppTable.the_row
app_table_send = view_send _ _ _ _ _ app_table_fields_send

app_table_fields_sync : IsSync AppTableInside.the_row
app_table_fields_sync = declared_sync AppTableInside.the_type (
  search sendable depth 20,
  (
    search (
      app_sync,
      crosses,
      sendable,
    ) depth 60 fits 20000,
    tt,
  ),
)

pub app_table_sync : IsSync AppTable.the_row
app_table_sync = view_sync _ _ _ _ _ app_table_fields_sync

pub replaced_send : IsSend Replaced.the_row
replaced_send = declared_send Replaced.the_type (search sendable, (otp_files.app_spec_send, tt))

pub replaced_sync : IsSync Replaced.the_row
replaced_sync = declared_sync Replaced.the_type (search sendable, (otp_files.app_spec_sync, tt))

pub former_specs_send : IsSend FormerSpecs.the_row
former_specs_send = declared_send FormerSpecs.the_type (
  search (
    replaced_send,
    row.the_send,
    crosses,
    sendable,
  ) depth 60 fits 20000,
  (search sendable, tt),
)

pub former_specs_sync : IsSync FormerSpecs.the_row
former_specs_sync = declared_sync FormerSpecs.the_type (
  search (
    replaced_sync,
    row.the_sync,
    crosses,
    sendable,
  ) depth 60 fits 20000,
  (search sendable, tt),
)

pub child_name_send : IsSend ChildName.the_row
child_name_send = declared_send ChildName.the_type (atom.the_send, (erl_term.term_send, tt))

pub child_name_sync : IsSync ChildName.the_row
child_name_sync = declared_sync ChildName.the_type (atom.the_sync, (erl_term.term_sync, tt))

pub child_edit_send : IsSend ChildEdit.the_row
child_edit_send = variants_send ChildEdit.enum (
  tt,
  (
    (
      search sendable,
      (
        search (
          child_specs.child_spec_send,
          crosses,
          sendable,
        ) depth 60 fits 20000,
        tt,
      ),
    ),
    tt,
  ),
)

pub child_edit_sync : IsSync ChildEdit.the_row
child_edit_sync = variants_sync ChildEdit.enum (
  tt,
  (
    (
      search sendable,
      (
        search (
          child_specs.child_spec_sync,
          crosses,
          sendable,
        ) depth 60 fits 20000,
        tt,
      ),
    ),
    tt,
  ),
)

pub undo_send : IsSend AppsUndo.the_row
undo_send = variants_send AppsUndo.enum (
  (search sendable, (children_send, tt)),
  (
    (spot.the_send, tt),
    (
      (search (child_process.the_send, few.the_send, crosses, sendable) depth 60 fits 20000, tt),
      (
        (
          search (
            rerun.the_send,
            row.the_send,
            crosses,
            sendable,
          ) depth 60 fits 20000,
          tt,
        ),
        (
          (
            search sendable,
            (
              search (
                child_state.the_send,
                row.the_send,
                crosses,
                sendable,
              ) depth 60 fits 20000,
              tt,
            ),
          ),
          (
            (
              search sendable,
              (
                search (
                  child_edit_send,
                  row.the_send,
                  crosses,
                  sendable,
                ) depth 60 fits 20000,
                tt,
              ),
            ),
            tt,
          ),
        ),
      ),
    ),
  ),
)

pub undo_sync : IsSync AppsUndo.the_row
undo_sync = variants_sync AppsUndo.enum (
  (search sendable, (children_sync, tt)),
  (
    (spot.the_sync, tt),
    (
      (search (child_process.the_sync, few.the_sync, crosses, sendable) depth 60 fits 20000, tt),
      (
        (
          search (
            rerun.the_sync,
            row.the_sync,
            crosses,
            sendable,
          ) depth 60 fits 20000,
          tt,
        ),
        (
          (
            search sendable,
            (
              search (
                child_state.the_sync,
                row.the_sync,
                crosses,
                sendable,
              ) depth 60 fits 20000,
              tt,
            ),
          ),
          (
            (
              search sendable,
              (
                search (
                  child_edit_sync,
                  row.the_sync,
                  crosses,
                  sendable,
                ) depth 60 fits 20000,
                tt,
              ),
            ),
            tt,
          ),
        ),
      ),
    ),
  ),
)

pub unloaded_send : IsSend Unloaded.the_row
unloaded_send = declared_send Unloaded.the_type (search sendable, (app_send, tt))

pub unloaded_sync : IsSync Unloaded.the_row
unloaded_sync = declared_sync Unloaded.the_type (search sendable, (app_sync, tt))

pub put_back_send : IsSend PutBack.the_row
put_back_send = declared_send PutBack.the_type (
  search (replaced_send, row.the_send, crosses, sendable) depth 60 fits 20000,
  (search (app_send, row.the_send, crosses, sendable) depth 60 fits 20000, tt),
)

pub put_back_sync : IsSync PutBack.the_row
put_back_sync = declared_sync PutBack.the_type (
  search (replaced_sync, row.the_sync, crosses, sendable) depth 60 fits 20000,
  (search (app_sync, row.the_sync, crosses, sendable) depth 60 fits 20000, tt),
)
